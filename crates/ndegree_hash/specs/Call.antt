-- One call of Hash N-Degree Quads (RDF Dataset Canonicalization, section 4.8) under a budget.
use Rattle.std.specs.Prelude.{◌≡◌, ℕ, ◌+◌, ◌<◌, ◌≤◌, List}
use Rattle.rdf_terms.specs.Vocabulary.{Text, Dataset}
use Rattle.canon_model.specs.Hashing.{Hashing}
use Rattle.canon_model.specs.Issuer.{IsValidCall}
use Rattle.canon_model.specs.Outcome.{HashNDegreeQuads}
use Rattle.canon_model.specs.CountedRun.{Trace, Outcome, counted_call}
use Rattle.canon_model.specs.Laws.{IsSameButForSymmetry}
use Rattle.ndegree_hash.specs.Log.{LoggedTies, LogsAll, LogsFront}
use Rattle.ndegree_hash.specs.Spending.{Spending}

abbrev pub trace_of_call : Hashing → Dataset → List ℕ → ℕ → List ℕ → Trace
trace_of_call ρ D c n i = (counted_call ρ D c n i).trace

abbrev pub value_of_call : Hashing → Dataset → List ℕ → ℕ → List ℕ → Outcome
value_of_call ρ D c n i = (counted_call ρ D c n i).value

-- the hash and the list that a call gives: an outcome that the standard allows, and among these that of the counted run
pub record IsCallResult (ρ : Hashing) (D : Dataset) (c : List ℕ) (n : ℕ) (i : List ℕ) (hash : Text)
    (j : List ℕ) : Type 0 where
  pub outcome : HashNDegreeQuads ρ D c n i hash j
  pub valid : IsValidCall D c n j
  pub hash_is : hash ≡ (value_of_call ρ D c n i).text
  pub list_is : j ≡ (value_of_call ρ D c n i).issuer

-- the budget has grown by the units of the call, and stays within its limit
pub record Spends (ρ : Hashing) (D : Dataset) (c : List ℕ) (n : ℕ) (i : List ℕ) (old new : Spending) : Type 0 where
  pub spent : new.spent ≡ old.spent + (trace_of_call ρ D c n i).units
  pub within : new.spent ≤ new.limit

abbrev pub IsOverBudget : Hashing → Dataset → List ℕ → ℕ → List ℕ → Spending → Type 0
IsOverBudget ρ D c n i budget = budget.limit < budget.spent + (trace_of_call ρ D c n i).units

abbrev pub LogsTiesOfCall : Hashing → Dataset → List ℕ → ℕ → List ℕ → LoggedTies → LoggedTies → Type 0
LogsTiesOfCall ρ D c n i old new = LogsAll D (trace_of_call ρ D c n i).ties old new

-- the first of the call's ties were logged, and none of the others
abbrev pub LogsFrontOfCall : Hashing → Dataset → List ℕ → ℕ → List ℕ → LoggedTies → LoggedTies → Type 0
LogsFrontOfCall ρ D c n i old new = LogsFront (LogsAll D) (trace_of_call ρ D c n i).ties old new

-- each outcome of the call is this one but for a symmetry that fixes the issuers passed in
abbrev pub IsOnlyOutcome : Hashing → Dataset → List ℕ → ℕ → List ℕ → Type 0
IsOnlyOutcome ρ D c n i =
    (hash : Text) (j : List ℕ) → HashNDegreeQuads ρ D c n i hash j
    → IsSameButForSymmetry D c i (value_of_call ρ D c n i) hash j
