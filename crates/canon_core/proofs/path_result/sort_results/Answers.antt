use Rattle.std.proofs.lemmas.List.Sorted.{answers_always, ranks_by}
use Rattle.std.proofs.Common.{rules}
use Rattle.std.specs.Ordering.{is_lt}
use Rattle.rdf_terms.proofs.Permutations.{Permutes-from_IsPermutation}
use Rattle.canon_core.specs.HashOrder.{result_cmp}
use Rattle.canon_core.proofs.RankedNodes.{result_cmp_total}
use Rattle.canon_core.proofs.ResultOrder.{results-sorted}
use Rattle.canon_core.proofs.path_result.sort_results.Goals as goal

pub returns : goal.returns
returns c =
    results-sorted _ _ c.requires (Permutes-from_IsPermutation _ _ c.sort_unstable_by.ensures.permutation)
    (c.sort_unstable_by.ensures.sorted (λ x y. is_lt (result_cmp x y)) (ranks_by result_cmp_total (λ x. x)) (answers_always _ _ _ (λ f a r g h. search rules)))
