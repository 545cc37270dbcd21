-- A dataset is its set of quads (RDF 1.1 Concepts, section 4): nothing that is counted depends on the order of its
-- list.
use Rattle.std.specs.Prelude.{◌≡◌}
use Rattle.rdf_terms.specs.Vocabulary.{Permutes, Dataset}
use Rattle.canon_model.specs.Hashing.{Hashing}
use Rattle.canon_model.specs.CountedRun.{counted_run}

-- two lists of the same quads
pub record HaveSameQuads (D E : Dataset) : Type 0 where
  pub nodes : E.nodes ≡ D.nodes
  pub statements : Permutes D.statements E.statements

abbrev pub CountedRunOfQuads : Type 0
CountedRunOfQuads = (ρ : Hashing) (D E : Dataset) → HaveSameQuads D E → counted_run ρ E ≡ counted_run ρ D
