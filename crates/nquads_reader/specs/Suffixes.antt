-- What stands behind a string makes the kind of its literal.
use Rattle.rdf_terms.specs.declared.term.LiteralKind.{LiteralKind}
use Rattle.rdf_terms.specs.declared.term.LiteralKind.TheVariants.{Typed, Tagged}
use Rattle.nquads_reader.specs.declared.stated_literal.Suffix.{Suffix}
use Rattle.nquads_reader.specs.declared.stated_literal.Suffix.TheVariants.{Datatype, Tag}

abbrev pub suffix_kind : Suffix → LiteralKind
suffix_kind (Datatype iri) = Typed iri
suffix_kind (Tag tag) = Tagged tag
