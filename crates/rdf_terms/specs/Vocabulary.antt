-- The words of all definitions above, from one place.
pub use Rattle.rdf_terms.specs.Lists.{AreDistinct, In, Permutes, Text, insert_sorted, is_at_most, is_before, joined, numbers_below, permutes_cons, permutes_nil, permutes_swap, permutes_trans, sorted}
pub use Rattle.rdf_terms.specs.Terms.{HasScheme, IsAbsoluteIri, IsIri, IsIriOrBlank, IsLanguageTag, IsSubtag, IsValidKind, IsValidStatement, IsValidTerm, Statement, behind_dashes, is_excluded, is_scheme_byte}
pub use Rattle.rdf_terms.specs.Dataset.{Dataset, IsUsed, IsValid, is_named_by, is_node, mentions, statements_of}
pub use Rattle.rdf_terms.specs.Document.{Adds, AddsAll, Document, Extends, Finishes, Interns, IsDocument, IsInRange, dataset, graph_name_at, label_at, new_number, statement, statements, term_at, used_below}
pub use Rattle.rdf_terms.specs.CanonicalForm.{Naming, after_first, canonical_graph_name, canonical_nquads, canonical_suffix, canonical_term, hex_digit, identifier, identifier_at, is_written_by_number, issued_name, issued_names, name_or_nothing, place_of, xsd_string}
unfoldable pub use Rattle.rdf_terms.specs.CanonicalForm.{canonical_line, escaped}
pub use Rattle.rdf_terms.specs.Isomorphism.{AreIsomorphic, Carries, Relabelling, Symmetry, relabel_graph_name, relabel_statement, relabel_term}
unfoldable pub use Rattle.rdf_terms.specs.Numeral.{digits_from_last, numeral}
pub use Rattle.rdf_terms.specs.Arrangements.{AreStrictlyAscending, arrangements, without}
pub use Rattle.rdf_terms.specs.References.{graph_name_of, statement_of, term_of}
