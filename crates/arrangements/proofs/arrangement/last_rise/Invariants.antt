use Rattle.std.proofs.Common.{ℕ, ◌<◌, ◌≤◌, ◌+◌, length, get_or}
use Rattle.arrangements.proofs.arrangement.last_rise.Given as goal

-- behind the place, nothing rises
abbrev pub invariant-loop-after : goal.invariant-loop-after
invariant-loop-after l = (k : ℕ) → l.after ≤ k + 1 → k + 1 < length l.nodes → get_or l.nodes (k + 1) 0 ≤ get_or l.nodes k 0
