-- When a tie is joined, told without its exchange: some symmetry carries the one list to the other.
use Rattle.std.specs.Prelude.{◌≡◌, ◌↔◌, ℕ, List, map}
use Rattle.rdf_terms.specs.Vocabulary.{Dataset, IsValid, Symmetry}
use Rattle.canon_model.specs.Hashing.{Hashing}
use Rattle.canon_model.specs.Ties.{Fixes, IsJoined, AreTied, MayBeExchanged}

-- some symmetry that fixes every node of the canonical list and of the list passed in carries the left list to the
-- right one, place by place
pub record IsCarried (D : Dataset) (c i left right : List ℕ) : Type 0 where
  pub symmetry : Symmetry D
  pub fixes_canonical : Fixes symmetry.relabelling.to c
  pub fixes_passed : Fixes symmetry.relabelling.to i
  pub right_is : right ≡ map symmetry.relabelling.to left

-- what the check of an exchange asks of two lists holds wherever they are tied
abbrev pub TiedMayBeExchanged : Type 0
TiedMayBeExchanged =
    (ρ : Hashing) (D : Dataset) → IsValid D → (c i left right : List ℕ) → AreTied ρ D c i left right
    → MayBeExchanged D c i left right

-- a tie is joined exactly where such a symmetry exists
abbrev pub JoinedWhereSymmetric : Type 0
JoinedWhereSymmetric = (ρ : Hashing) (D : Dataset) → IsValid D → (c i left right : List ℕ) → AreTied ρ D c i left right
    → (IsJoined D c left right ↔ IsCarried D c i left right)
