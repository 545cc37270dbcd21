-- What a document holds apart from its quads.
use Rattle.std.specs.Prelude.{List}
use Rattle.rdf_terms.specs.declared.term.Term.{Term}
use Rattle.rdf_terms.specs.declared.term.Label.{Label}

-- the terms by number, and what the document calls its nodes
pub record Lexicon : Type 0 where
  pub terms : List Term
  pub labels : List Label
