use Rattle.std.proofs.Common.{subst}
use Rattle.rdf_terms.proofs.Common.{Permutes, Permutes-from_IsPermutation}
use Rattle.std.proofs.lemmas.List.Sorted.{IsNonDecreasingBy-from_sort}
use Rattle.arrangements.proofs.Stepping.{ascending_is_first}
use Rattle.arrangements.proofs.arrangement.Arrangement.first.Goals as goal

pub returns : goal.returns
returns c =
    ascending_is_first c.args.bag.now c.sort_unstable.new.self.items
    (subst (λ l. Permutes l c.sort_unstable.new.self.items) (c.in_ok-nodes.ensures.items_if_clones_equal (λ x y e. e)) (Permutes-from_IsPermutation _ _ c.sort_unstable.ensures.permutation))
    (IsNonDecreasingBy-from_sort (λ x. x) c.sort_unstable.new.self.items c.sort_unstable.ensures.sorted)
