use Rattle.std.proofs.Common.{◌≡◌, ◌+◌, ◌-◌, ◌≤◌, length, drop}
use Rattle.std.specs.List.{prefix_len}
use Rattle.char_tables.specs.Classes.{may_stand_in_iriref}
use Rattle.char_tables.proofs.lanes.iri_len.Given as goal

abbrev pub invariant-loop-at : goal.invariant-loop-at
invariant-loop-at l = record {
  within : l.at ≤ length l.bytes;
  all_before : prefix_len may_stand_in_iriref l.bytes ≡ l.at + prefix_len may_stand_in_iriref (drop l.at l.bytes);
}

abbrev pub decreases-loop-at : goal.decreases-loop-at
decreases-loop-at l = length l.bytes - l.at
