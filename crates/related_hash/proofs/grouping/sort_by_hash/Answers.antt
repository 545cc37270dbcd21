use Rattle.std.proofs.Common.{rules}
use Rattle.std.proofs.lemmas.Cmp.{nat_list_cmp_total}
use Rattle.std.proofs.lemmas.List.Sorted.{answers_always, ranks_by}
use Rattle.std.specs.Cmp.Lexicographic.{slice_cmp}
use Rattle.std.specs.Ordering.{is_lt, nat_cmp}
use Rattle.rdf_terms.proofs.Common.{Permutes-from_IsPermutation, Permutes-map, sorted_from_sort_by_text}
use Rattle.related_hash.specs.Entries.{hash_of, related_entry}
use Rattle.related_hash.proofs.grouping.sort_by_hash.Goals as goal

pub returns-clause-permutes : goal.returns-clause-permutes
returns-clause-permutes c = Permutes-map related_entry (Permutes-from_IsPermutation _ _ c.sort_unstable_by.ensures.permutation)

pub returns-clause-sorted : goal.returns-clause-sorted
returns-clause-sorted c =
    sorted_from_sort_by_text hash_of _ _ c.sort_unstable_by.ensures.permutation
    (c.sort_unstable_by.ensures.sorted (λ x y. is_lt (slice_cmp nat_cmp (hash_of x) (hash_of y))) (ranks_by nat_list_cmp_total hash_of) (answers_always _ _ _ (λ f a r g h. search rules)))
