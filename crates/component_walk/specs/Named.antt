-- Quads with a graph name.
use Rattle.std.specs.Prelude.{◌≡◌, ℕ, ◌<◌, List, Some, None, IsSome, slice_get}
use Rattle.rdf_terms.specs.declared.term.Quad.{Quad}

-- the first quad with a graph name
pub record IsFirstNamed (quads : List Quad) (quad : Quad) : Type 0 where
  pub place : ℕ
  pub there : slice_get quads place ≡ Some quad
  pub named : IsSome quad.g
  pub none_before : (k : ℕ) (q : Quad) → k < place → slice_get quads k ≡ Some q → q.g ≡ None
