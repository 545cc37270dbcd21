-- What canonical lists say of outputs.
use Rattle.std.specs.Prelude.{◌≡◌, ℕ, List}
use Rattle.rdf_terms.specs.Vocabulary.{Text, Dataset, IsValid}
use Rattle.canonical_writer.specs.Determined.{CarriesLists}
use Rattle.canon_model.specs.Hashing.{Hashing}
use Rattle.canon_model.specs.Allowed.{IsCanonicalList, canonical_form, IsCanonicalOutput}
use Rattle.canon_model.specs.Ties.{IsJoined}
use Rattle.canon_model.specs.TwoLists.{MayBeIssuedFirst}

-- two datasets with an allowed output in common, each under some hash and reading, are carried to one another with
-- their lists
abbrev pub SharedOutput : Type 0
SharedOutput =
    (ρ ρ' : Hashing) (D E : Dataset) → IsValid D → IsValid E → (c d : List ℕ) → IsCanonicalList ρ D c
    → IsCanonicalList ρ' E d
    → canonical_form D c ≡ canonical_form E d → CarriesLists D E c d

-- two outputs that are allowed, and differ
pub record HasTwoOutputs (ρ : Hashing) (D : Dataset) : Type 0 where
  pub first : Text
  pub second : Text
  pub first_allowed : IsCanonicalOutput ρ D first
  pub second_allowed : IsCanonicalOutput ρ D second
  pub differ : ¬ (first ≡ second)

-- where two tied results may be issued for first and are not joined, there are two such outputs
abbrev pub UnjoinedGivesTwoOutputs : Type 0
UnjoinedGivesTwoOutputs =
    (ρ : Hashing) (D : Dataset) → IsValid D → (c left right : List ℕ) → MayBeIssuedFirst ρ D c left right
    → ¬ (IsJoined D c left right) → HasTwoOutputs ρ D
