-- A table of the places of numbers in a list.
use Rattle.std.specs.Prelude.{◌≡◌, ℕ, ◌<◌, List, length, slice_index}
use Rattle.rdf_terms.specs.declared.term.Prefix.{Prefix}

-- a list of nodes that are named by their places, and the prefix of the names
pub record NamedList : Type 0 where
  pub list : List ℕ
  pub prefix : Prefix

-- the table has an entry for each number of the list, and this entry is its place
abbrev pub TellsPlaces : List ℕ → List ℕ → Type 0
TellsPlaces list places =
    (k : ℕ) → k < length list → (slice_index list k < length places) × (slice_index places (slice_index list k) ≡ k)
