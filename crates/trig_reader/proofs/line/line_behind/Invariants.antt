use Rattle.std.proofs.Common.{◌≡◌, suc, ◌+◌, ◌≤◌, drop}
use Rattle.trig_reader.specs.Lines.{line_ends}
use Rattle.trig_reader.proofs.Lines.{ends_from}
use Rattle.trig_reader.proofs.line.line_behind.Given as goal

abbrev pub invariant-loop-byte : goal.invariant-loop-byte
invariant-loop-byte l = record {
  counted : l.line + ends_from l.after_cr (drop l.byte-index l.front) ≡ suc (line_ends l.front);
  few : l.line ≤ l.byte-index + 1;
}
