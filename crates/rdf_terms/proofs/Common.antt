-- The words and lemmas of all proofs above, from one place.
pub use Rattle.rdf_terms.specs.Vocabulary.{Adds, AddsAll, AreDistinct, AreIsomorphic, AreStrictlyAscending, Carries, Dataset, Document, Extends, Finishes, HasScheme, In, Interns, IsAbsoluteIri, IsDocument, IsInRange, IsIri, IsIriOrBlank, IsLanguageTag, IsSubtag, IsUsed, IsValid, IsValidKind, IsValidStatement, IsValidTerm, Naming, Permutes, Relabelling, Statement, Symmetry, Text, after_first, arrangements, behind_dashes, canonical_graph_name, canonical_nquads, canonical_suffix, canonical_term, dataset, graph_name_at, graph_name_of, hex_digit, identifier, identifier_at, insert_sorted, is_at_most, is_before, is_excluded, is_named_by, is_node, is_scheme_byte, is_written_by_number, issued_name, issued_names, joined, label_at, mentions, name_or_nothing, new_number, numbers_below, permutes_cons, permutes_nil, permutes_swap, permutes_trans, place_of, relabel_graph_name, relabel_statement, relabel_term, sorted, statement, statement_of, statements, statements_of, term_at, term_of, used_below, without, xsd_string}
unfoldable pub use Rattle.rdf_terms.specs.Vocabulary.{canonical_line, digits_from_last, escaped, numeral}
pub use Rattle.rdf_terms.proofs.Membership.{AreDistinct-from_IsDistinct, AreDistinct-from_test, AreDistinct-push, AreDistinct-take, Extends-adds, In-append, In-append_left, In-append_right, In-at, In-map, In-take, TellsEqual, decide_in, from_In-map, inserted, length-adds, length-distinct_below, one_place, place_in, present}
pub use Rattle.rdf_terms.proofs.MadeLists.{All-from_each, AreDistinct-append, AreDistinct-filter, AreDistinct-map, In-filter, In-flat_map, In-get_or, each-from_All, from_In-filter, from_In-flat_map, map-agree, map-map, one_place_within, place_within, rest_all}
pub use Rattle.rdf_terms.proofs.Permutations.{AreDistinct-Permutes, In-Permutes, Permutes-append_comm, Permutes-filter, Permutes-flat_map, Permutes-from_IsPermutation, Permutes-from_equal, Permutes-map, Permutes-refl, Permutes-sym, length-Permutes}
pub use Rattle.rdf_terms.proofs.Ranks.{AreDistinct-numbers_below, In-numbers_below, from_In-numbers_below, get_or-numbers_below, length-numbers_below, map-numbers_below}
pub use Rattle.rdf_terms.proofs.TextOrder.{is_at_most-antisymm, is_at_most-from_not_before, is_at_most-other, is_at_most-refl, is_at_most-total, is_at_most-trans, is_before-asym, is_before-front, is_before-irrefl, not_before-from_is_at_most, not_before-trans, same_from_neither_before, same_text}
pub use Rattle.rdf_terms.proofs.Numerals.{All-numeral, In-numeral, IsDigit, identifier-injective, length-numeral-le, numeral-decimal, numeral-digit, numeral-injective, numeral-nonempty, numeral-step}
pub use Rattle.rdf_terms.proofs.SortedTexts.{Ascends, Ascends-sorted, joined_sorted-Permutes, sorted-Ascends, sorted-Permutes, sorted-permutes, sorted_from_sort_by_text}
pub use Rattle.rdf_terms.proofs.SameTerm.{labels_tell, terms_tell}
pub use Rattle.rdf_terms.proofs.Arrangements.{In-arrangements, Permutes-without, from_In-arrangements, without-first, without-there}
pub use Rattle.rdf_terms.proofs.AscendingArrangements.{arrangements-ascending, ascending_distinct, ascending_unique}
pub use Rattle.rdf_terms.proofs.Added.{AddsAll-AreDistinct, AddsAll-append, AddsAll-extends, AddsAll-same, AreDistinct-AddsAll, In-AddsAll, add_all, from_In-AddsAll}
pub use Rattle.rdf_terms.proofs.Moving.{absent_before}
