use Rattle.std.proofs.lemmas.List.Sorted.{answers_always, ranks_by}
use Rattle.std.proofs.Common.{rules}
use Rattle.std.specs.Ordering.{is_lt}
use Rattle.rdf_terms.proofs.Permutations.{Permutes-from_IsPermutation}
use Rattle.canon_core.specs.HashOrder.{node_cmp}
use Rattle.canon_core.proofs.RankedNodes.{node_cmp_total}
use Rattle.canon_core.proofs.node_order.sort.Goals as goal

pub returns-clause-permutes : goal.returns-clause-permutes
returns-clause-permutes c = Permutes-from_IsPermutation _ _ c.sort_unstable_by.ensures.permutation

pub returns-clause-sorted : goal.returns-clause-sorted
returns-clause-sorted c =
    c.sort_unstable_by.ensures.sorted (λ x y. is_lt (node_cmp x y)) (ranks_by node_cmp_total (λ x. x)) (answers_always _ _ _ (λ f a r g h. search rules))
