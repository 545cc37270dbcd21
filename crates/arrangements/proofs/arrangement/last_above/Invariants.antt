use Rattle.std.proofs.Common.{ℕ, ◌<◌, ◌≤◌, ◌+◌, length, get_or}
use Rattle.arrangements.proofs.arrangement.last_above.Given as goal

-- behind the place, no node is above the one at the rise
abbrev pub invariant-loop-other : goal.invariant-loop-other
invariant-loop-other l = (l.at + 1 ≤ l.other) × (l.other < length l.nodes) × ((k : ℕ) → l.other < k → k < length l.nodes → get_or l.nodes k 0 ≤ get_or l.nodes l.at 0)

abbrev pub decreases-loop-other : goal.decreases-loop-other
decreases-loop-other l = l.other
