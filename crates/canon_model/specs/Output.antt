-- What the bytes of a run are (RDF Dataset Canonicalization, section 4.4, step 7), and the limit on its work.
use Rattle.std.specs.Prelude.{◌≡◌, ℕ, ◌<◌, ◌≤◌}
use Rattle.rdf_terms.specs.Vocabulary.{Text, Dataset, IsValid, AreIsomorphic}
use Rattle.canon_model.specs.Hashing.{Hashing}
use Rattle.canon_model.specs.Allowed.{canonical_form, IsCanonicalOutput}
use Rattle.canon_model.specs.CountedRun.{counted_run}

-- the form that is chosen among those that the standard allows: that of the counted run
abbrev pub chosen_form : Hashing → Dataset → Text
chosen_form ρ D = canonical_form D (counted_run ρ D).value

-- The text is the chosen form of a valid dataset. The standard allows it for the dataset, and for no dataset that is
-- not isomorphic, under whichever hash and reading.
pub record IsOutputOf (ρ : Hashing) (D : Dataset) (text : Text) : Type 0 where
  pub valid : IsValid D
  pub chosen : text ≡ chosen_form ρ D
  pub allowed : IsCanonicalOutput ρ D text
  pub tells : (ρ' : Hashing) (E : Dataset) → IsValid E → IsCanonicalOutput ρ' E text → AreIsomorphic D E

-- whatever the standard allows for a dataset that is isomorphic to this one is this text
abbrev pub IsOnlyOutput : Hashing → Dataset → Text → Type 0
IsOnlyOutput ρ D text = (E : Dataset) → AreIsomorphic D E → (other : Text) → IsCanonicalOutput ρ E other → other ≡ text

-- ---- the limit

-- how many units of work the counted run has
abbrev pub units_of : Hashing → Dataset → ℕ
units_of ρ D = (counted_run ρ D).trace.units

abbrev pub PassesLimit : Hashing → Dataset → ℕ → Type 0
PassesLimit ρ D limit = limit < units_of ρ D

abbrev pub IsWithinLimit : Hashing → Dataset → ℕ → Type 0
IsWithinLimit ρ D limit = units_of ρ D ≤ limit
