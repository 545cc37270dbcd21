-- Hash N-Degree Quads (RDF Dataset Canonicalization, section 4.8) in its own words: no depth of calls is in these laws.
use Rattle.std.specs.Prelude.{◌≡◌, ◌↔◌, ℕ, ◌<◌, List, length}
use Rattle.rdf_terms.specs.Vocabulary.{Text, Dataset, IsValid}
use Rattle.canon_model.specs.Hashing.{Hashing}
use Rattle.canon_model.specs.Issuer.{IsValidCall}
use Rattle.canon_model.specs.Groups.{groups}
use Rattle.canon_model.specs.Outcome.{NDegreeStep, HashNDegreeQuads}
use Rattle.canon_model.specs.CountedRun.{CountedCall, followed_by, one_unit, counted_groups, counted_call}
use Rattle.canon_model.specs.Coverage.{BeginsWith}

-- the calls that a valid call makes have outcomes of the same relation
abbrev pub OutcomesOfOutcomes : Type 0
OutcomesOfOutcomes =
    (ρ : Hashing) (D : Dataset) (c : List ℕ) (n : ℕ) (i : List ℕ) → IsValid D → IsValidCall D c n i
    → (hash : Text) (j : List ℕ)
    → (NDegreeStep (HashNDegreeQuads ρ D c) ρ D c n i hash j ↔ HashNDegreeQuads ρ D c n i hash j)

-- one call of the counted run over the calls that it makes
abbrev pub counted_step : CountedCall → Hashing → Dataset → List ℕ → CountedCall
counted_step call ρ D c n i =
    let g = groups ρ D c i n in
    let run = counted_groups call c g.nodes g.hashes i in
    record {
      trace = followed_by one_unit run.trace;
      value =
          record { text = ρ.hash run.value.text; issuer = run.value.issuer };
    }

-- the counted run of a valid call is such a step over the counted runs of the calls that it makes
abbrev pub CountedCallOfCalls : Type 0
CountedCallOfCalls =
    (ρ : Hashing) (D : Dataset) (c : List ℕ) (n : ℕ) (i : List ℕ) → IsValid D → IsValidCall D c n i
    → counted_call ρ D c n i ≡ counted_step (counted_call ρ D c) ρ D c n i

-- ---- what a call returns

-- the issuer that a call returns may be passed to a further call, and begins with the one passed in
pub record IsValidOutcome (D : Dataset) (c : List ℕ) (n : ℕ) (i j : List ℕ) : Type 0 where
  pub valid : IsValidCall D c n j
  pub begins : BeginsWith i j

abbrev pub OutcomesAreValid : Type 0
OutcomesAreValid =
    (ρ : Hashing) (D : Dataset) (c : List ℕ) (n : ℕ) (i : List ℕ) → IsValid D → (hash : Text) (j : List ℕ)
    → HashNDegreeQuads ρ D c n i hash j → IsValidOutcome D c n i j

-- a call has fewer ties than units: one unit is the call's own, and of the permutations of a group the first is no tie
abbrev pub FewerTiesThanUnits : Type 0
FewerTiesThanUnits =
    (ρ : Hashing) (D : Dataset) (c : List ℕ) (n : ℕ) (i : List ℕ)
    → length (counted_call ρ D c n i).trace.ties < (counted_call ρ D c n i).trace.units
