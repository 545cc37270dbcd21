use Rattle.std.proofs.Common.{◌-◌, ◌≡◌, ℕ, ◌<◌, ◌≤◌, true, false, length}
use Rattle.map_search.specs.Table.{entry_at, is_before}
use Rattle.map_search.proofs.table.start_of.Given as goal

abbrev pub invariant-loop-low : goal.invariant-loop-low
invariant-loop-low l = record {
  ordered : l.low ≤ l.high;
  within : l.high ≤ length l.entries;
  before : (k : ℕ) → k < l.low → is_before (entry_at l.entries k) l.sought ≡ true;
  behind : (k : ℕ) → l.high ≤ k → k < length l.entries → is_before (entry_at l.entries k) l.sought ≡ false;
}

abbrev pub decreases-loop-low : goal.decreases-loop-low
decreases-loop-low l = l.high - l.low
