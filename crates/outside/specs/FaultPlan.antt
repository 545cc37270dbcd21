-- Calls that are counted from 0, and those of them that are told to fail.
use Rattle.std.specs.Prelude.{ℕ, List}
use Rattle.rdf_terms.specs.Lists.{In}
use Rattle.outside.specs.Faults.{one_more}

-- the numbers of the calls that fail, the number of the next call, and how many calls have failed
pub record FaultPlan : Type 0 where
  pub failing : List ℕ
  pub calls : ℕ
  pub faults : ℕ

-- no call was made yet
abbrev pub unused : List ℕ → FaultPlan
unused failing = record { failing = failing; calls = 0; faults = 0 }

-- the next call is told to fail
abbrev pub FailsNext : FaultPlan → Type 0
FailsNext plan = In plan.calls plan.failing

abbrev pub after_call : FaultPlan → FaultPlan
after_call plan = record plan { calls = one_more plan.calls }

abbrev pub after_fault : FaultPlan → FaultPlan
after_fault plan = record plan { calls = one_more plan.calls; faults = one_more plan.faults }
