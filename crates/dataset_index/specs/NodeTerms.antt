-- The number of each node's term.
use Rattle.std.specs.Prelude.{◌≡◌, ℕ, ◌<◌, List, Some, slice_get, slice_index}
use Rattle.rdf_terms.specs.declared.term.Term.{Term}
use Rattle.rdf_terms.specs.declared.term.Term.TheVariants.{Blank}

-- for each node among the first `end` terms, its place in the numbers holds the number of its term
abbrev pub NumbersNodes : List Term → List ℕ → ℕ → Type 0
NumbersNodes terms numbers end =
    (n k : ℕ) → k < end → slice_get terms k ≡ Some (Blank n) → slice_get terms (slice_index numbers n) ≡ Some (Blank n)
