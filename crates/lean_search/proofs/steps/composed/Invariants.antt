use Rattle.std.proofs.Common.{◌≡◌, ℕ, ◌<◌, ◌≤◌, length, get_or, drop}
use Rattle.lean_search.specs.Steps.{map_by_steps}
use Rattle.lean_search.proofs.steps.composed.Given as goal

abbrev pub invariant-loop-at : goal.invariant-loop-at
invariant-loop-at l = record {
  within : l.at ≤ length l.steps;
  count : length l.to.items ≡ l.terms;
  each : (k : ℕ) → k < l.terms → get_or l.to.items k 0 ≡ map_by_steps (drop l.at l.steps) k;
}

abbrev pub decreases-loop-at : goal.decreases-loop-at
decreases-loop-at l = l.at
