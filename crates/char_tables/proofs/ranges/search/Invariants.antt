use Rattle.std.proofs.Common.{◌-◌, ◌≡◌, ◌≤◌, false, length, take, drop}
use Rattle.char_tables.specs.Rows.{is_in}
use Rattle.char_tables.proofs.ranges.search.Given as goal

abbrev pub invariant-loop-low : goal.invariant-loop-low
invariant-loop-low l = record {
  in_bounds : l.low ≤ l.high;
  within : l.high ≤ length l.rows;
  none_before : is_in (take l.low l.rows) l.code ≡ false;
  none_behind : is_in (drop l.high l.rows) l.code ≡ false;
}

abbrev pub decreases-loop-low : goal.decreases-loop-low
decreases-loop-low l = l.high - l.low
