-- Each element of a list once, by its first place.
use Rattle.std.specs.Prelude.{◌≡◌, ℕ, ◌↔◌, List, [], ◌++◌, take}
use Rattle.rdf_terms.specs.Lists.{In, AreDistinct}
use Rattle.rdf_terms.specs.Document.{AddsAll}

-- each element of xs once, by its first place there: where xs begins with some elements, the list begins with just
-- these
pub record AreByFirstPlace {A : Type 0} (xs new : List A) : Type 0 where
  pub distinct : AreDistinct new
  pub all : (x : A) → In x new → In x xs
  pub fronts : (front rest : List A) → xs ≡ front ++ rest → (n : ℕ) × ((x : A) → In x (take n new) ↔ In x front)

-- what is added to the empty list in turn is just that
abbrev pub AddsEachOnce : Type 0 → Type 0
AddsEachOnce A = (xs new : List A) → AddsAll [] xs new ↔ AreByFirstPlace xs new
