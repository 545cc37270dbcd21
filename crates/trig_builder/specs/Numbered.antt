-- What is said, by the numbers of its blank nodes (RDF 1.1 TriG, section 5).
use Rattle.std.specs.Prelude.{◌≡◌, ◌⊎◌, ◌<◌, ◌≤◌, ℕ, List, Option, Some, None, length, slice_get}
use Rattle.rdf_terms.specs.Vocabulary.{Statement, IsIriOrBlank, IsValidTerm, Adds}
use Rattle.rdf_terms.specs.declared.term.Term.{Term}
use Rattle.rdf_terms.specs.declared.term.Term.TheVariants.{Iri as IriTerm, Blank, Literal as LiteralTerm}
use Rattle.rdf_terms.specs.declared.term.Label.{Label}
use Rattle.trig_terms.specs.Meaning.{Said, StatedQuad}
use Rattle.trig_terms.specs.Meaning.Said.{Iri, Node, Literal}
use Rattle.trig_builder.specs.declared.TheConstants.{MAX_QUADS}

-- the term for what is said, where blank node n has label n
abbrev pub IsTermOf : List Label → Said → Term → Type 0
IsTermOf labels (Iri text) term = term ≡ IriTerm text
IsTermOf labels (Node label) term = (n : ℕ) × (slice_get labels n ≡ Some label) × (term ≡ Blank n)
IsTermOf labels (Literal literal) term = term ≡ LiteralTerm literal

abbrev pub IsGraphNameOf : List Label → Option Said → Option Term → Type 0
IsGraphNameOf labels None name = name ≡ None
IsGraphNameOf labels (Some said) name = (term : Term) × IsTermOf labels said term × (name ≡ Some term)

pub record IsStatementOf (labels : List Label) (quad : StatedQuad) (statement : Statement) : Type 0 where
  pub subject : IsTermOf labels quad.subject statement.subject
  pub predicate : IsTermOf labels quad.predicate statement.predicate
  pub object : IsTermOf labels quad.object statement.object
  pub graph_name : IsGraphNameOf labels quad.graph_name statement.graph_name

-- a valid term that can be a subject and name a graph
abbrev pub IsName : ℕ → Term → Type 0
IsName nodes t = IsIriOrBlank t × IsValidTerm nodes t

-- The statement is added, or there are more already than a document may have, and they stay.
abbrev pub Says : List Statement → Statement → List Statement → Type 0
Says old st new = ((length old ≤ MAX_QUADS) × Adds old st new) ⊎ ((MAX_QUADS < length old) × (new ≡ old))
