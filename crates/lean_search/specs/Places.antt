-- The places of some terms in a list, by the numbers of the terms.
use Rattle.std.specs.Prelude.{◌≡◌, ℕ, ◌<◌, List, length, slice_index}
use Rattle.rdf_terms.specs.Lists.{In}
use Rattle.lean_search.specs.declared.places.TheConstants.{NONE}

-- so many terms, none of which has a place
pub record AreNoPlaces (terms : ℕ) (place_of : List ℕ) : Type 0 where
  pub count : length place_of ≡ terms
  pub none : (t : ℕ) → t < terms → slice_index place_of t ≡ NONE

-- each of the terms has its place in the list, and no other term has one
pub record ArePlaces (terms : ℕ) (place_of own : List ℕ) : Type 0 where
  pub count : length place_of ≡ terms
  pub at_place : (k : ℕ) → k < length own → slice_index place_of (slice_index own k) ≡ k
  pub elsewhere : (t : ℕ) → t < terms → (¬ (In t own)) → slice_index place_of t ≡ NONE
