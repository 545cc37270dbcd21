-- Whether another output than that of a run is known.
use Rattle.std.specs.Prelude.{◌≡◌, ℕ, Some}
use Rattle.rdf_terms.specs.Vocabulary.{Text, Dataset}
use Rattle.canon_model.specs.Hashing.{Hashing}
use Rattle.canon_model.specs.JoinedTies.{IsSettled}
use Rattle.canon_model.specs.Output.{IsOnlyOutput}
use Rattle.ndegree_hash.specs.Log.{tie_of}
use Rattle.ndegree_hash.specs.declared.tie.Tie.{Tie}
use Rattle.canon_core.specs.declared.canon.Canon.{Canon}
use Rattle.canon_core.specs.Canonical.{IsUnsettledBy}
use Rattle.canon_core.specs.Outputs.{HasTwoOutputs}
use Rattle.other_output.specs.Along.{IsFormAlong, IsWithinLimitAlong, PassesLimitAlong}
use Rattle.other_output.specs.declared.other.Openness.{Openness}
use Rattle.other_output.specs.declared.other.Openness.TheVariants.{Settled, Another, NotKnown}

-- every tie is joined, and the form is the only output
pub record IsOnly (ρ : Hashing) (D : Dataset) (canon : Canon) : Type 0 where
  pub settled : IsSettled ρ D
  pub only : IsOnlyOutput ρ D canon.bytes

-- the form that is chosen when the nodes are numbered along the first tie that is not joined
pub record IsOtherRun (ρ : Hashing) (D : Dataset) (canon : Canon) (text : Text) : Type 0 where
  pub tie : Tie
  pub is : canon.unsettled ≡ Some tie
  pub unsettled : IsUnsettledBy ρ D tie
  pub form : IsFormAlong ρ D (tie_of tie) text

-- it differs from the form, so that two outputs are allowed
pub record IsAnother (ρ : Hashing) (D : Dataset) (canon : Canon) (text : Text) : Type 0 where
  pub run : IsOtherRun ρ D canon text
  pub differs : ¬ (canon.bytes ≡ text)
  pub two : HasTwoOutputs ρ D

abbrev pub IsOpenness : Hashing → Dataset → Canon → Openness → Type 0
IsOpenness ρ D canon Settled = IsOnly ρ D canon
IsOpenness ρ D canon (Another text) = IsAnother ρ D canon text
IsOpenness ρ D canon NotKnown = IsOtherRun ρ D canon canon.bytes

-- there is a tie that is not joined, and the run along it passes the limit
pub record OtherRunPasses (ρ : Hashing) (D : Dataset) (canon : Canon) (limit : ℕ) : Type 0 where
  pub tie : Tie
  pub is : canon.unsettled ≡ Some tie
  pub passes : PassesLimitAlong ρ D (tie_of tie) limit

-- where there is a tie that is not joined, the run along it does not pass the limit
abbrev pub OtherRunIsWithin : Hashing → Dataset → Canon → ℕ → Type 0
OtherRunIsWithin ρ D canon limit = (t : Tie) → canon.unsettled ≡ Some t → IsWithinLimitAlong ρ D (tie_of t) limit

-- the two texts are the same, or the other one is answered
abbrev pub IsCompared : Text → Text → Openness → Type 0
IsCompared first other Settled = ⊥
IsCompared first other (Another text) = (text ≡ other) × (¬ (first ≡ other))
IsCompared first other NotKnown = first ≡ other
