-- The number by which a table finds a term, under the keys of the table.
use Rattle.std.specs.Prelude.{ℕ, fold}
use Rattle.std.specs.Hash.{HashWrites}
use Rattle.std.specs.Hash.DefaultHasher.{write, finish}
use Rattle.std.specs.RandomState.{initial_hasher}
use Rattle.std.specs.declared.hash.RandomState.{RandomState}
use Rattle.rdf_terms.specs.Lists.{Text}
use Rattle.rdf_terms.specs.FedText.{fed_text, fed_texts}
use Rattle.rdf_terms.specs.declared.term.Term.{Term}
use Rattle.rdf_terms.specs.declared.term.Term.TheVariants.{Iri, Blank, Literal}
use Rattle.rdf_terms.specs.declared.term.LiteralKind.{LiteralKind}
use Rattle.rdf_terms.specs.declared.term.LiteralKind.TheVariants.{Typed, Tagged}

-- the keyed hash of these writes
abbrev pub keyed_hash : RandomState → HashWrites → ℕ
keyed_hash keys writes = finish (fold write (initial_hasher keys) writes)

-- the hash of one text
abbrev pub text_hash : RandomState → Text → ℕ
text_hash keys text = keyed_hash keys (fed_text text)

-- the hash of one text and then another
abbrev pub texts_hash : RandomState → Text → Text → ℕ
texts_hash keys first second = keyed_hash keys (fed_texts first second)

-- the datatype's IRI or the language tag
abbrev pub text_of_kind : LiteralKind → Text
text_of_kind (Typed iri) = iri
text_of_kind (Tagged tag) = tag

-- the hash of its texts; a node is found by its number
abbrev pub lookup_hash : RandomState → Term → ℕ
lookup_hash keys (Iri t) = text_hash keys t
lookup_hash keys (Blank n) = n
lookup_hash keys (Literal l) = texts_hash keys l.lexical (text_of_kind l.kind)
