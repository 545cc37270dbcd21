use Rattle.std.proofs.Common.{◌≡◌, ℕ, ◌⊎◌, ◌↔◌, true, false, take, length}
use Rattle.map_search.specs.Marks.{mark_at}
use Rattle.lean_search.specs.Walk.{IsNear}
use Rattle.lean_search.proofs.walk.mark_ends.Given as goal

abbrev pub invariant-loop-place : goal.invariant-loop-place
invariant-loop-place l = record {
  count : length l.ahead ≡ length l.initial.ahead;
  marks : (k : ℕ) → (mark_at l.ahead k ≡ true) ↔ ((mark_at l.initial.ahead k ≡ true) ⊎ (IsNear l.graph (take l.place-index l.places) k × (mark_at l.walked k ≡ false)));
}
