-- A sink in memory, and what a `put` does to it.
use Rattle.std.specs.Prelude.{◌≡◌, ℕ, ◌-◌, ◌<◌, ◌⊎◌, min, List, ◌++◌, length, take}
use Rattle.outside.specs.FaultPlan.{FaultPlan, FailsNext, after_call, after_fault}

-- what was taken, how many bytes there is room for in all, and the most that one call takes
pub record MemorySink : Type 0 where
  pub taken : List ℕ
  pub room : ℕ
  pub piece : ℕ
  pub plan : FaultPlan

abbrev pub room_left : MemorySink → ℕ
room_left sink = sink.room - length sink.taken

-- the next call is told to fail, or there are bytes and no room is left
abbrev pub PutFails : MemorySink → List ℕ → Type 0
PutFails sink bytes = FailsNext sink.plan ⊎ ((0 < length bytes) × (room_left sink ≡ 0))

-- how many bytes a `put` takes that does not fail
abbrev pub amount_taken : MemorySink → List ℕ → ℕ
amount_taken sink bytes = min sink.piece (min (room_left sink) (length bytes))

abbrev pub after_put : MemorySink → List ℕ → MemorySink
after_put sink bytes = record sink {
  taken = sink.taken ++ take (amount_taken sink bytes) bytes;
  plan = after_call sink.plan;
}

abbrev pub after_failed_put : MemorySink → MemorySink
after_failed_put sink = record sink { plan = after_fault sink.plan }
