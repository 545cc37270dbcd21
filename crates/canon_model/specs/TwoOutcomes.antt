-- What an unjoined tie of two permutations does: the call has two outcomes that no symmetry carries to one another.
use Rattle.std.specs.Prelude.{◌≡◌, ℕ, List, map}
use Rattle.rdf_terms.specs.Vocabulary.{Text, Dataset, IsValid, Symmetry}
use Rattle.canon_model.specs.Hashing.{Hashing}
use Rattle.canon_model.specs.Outcome.{HashNDegreeQuads}
use Rattle.canon_model.specs.Ties.{AreTiedPaths, Fixes, IsJoined}

-- two outcomes of one call, and no symmetry that fixes the canonical list carries the first issuer to the second
pub record HasTwoOutcomes (ρ : Hashing) (D : Dataset) (c : List ℕ) (n : ℕ) (i : List ℕ) : Type 0 where
  pub first_hash : Text
  pub first : List ℕ
  pub second_hash : Text
  pub second : List ℕ
  pub first_outcome : HashNDegreeQuads ρ D c n i first_hash first
  pub second_outcome : HashNDegreeQuads ρ D c n i second_hash second
  pub not_carried : (σ : Symmetry D) → Fixes σ.relabelling.to c → ¬ (second ≡ map σ.relabelling.to first)

-- where two tied permutations of a call's group are not joined, the call has two such outcomes
abbrev pub UnjoinedGivesTwoOutcomes : Type 0
UnjoinedGivesTwoOutcomes =
    (ρ : Hashing) (D : Dataset) → IsValid D → (c i left right : List ℕ) (t : AreTiedPaths ρ D c i left right)
    → ¬ (IsJoined D c left right) → HasTwoOutcomes ρ D c t.node t.call_issuer
