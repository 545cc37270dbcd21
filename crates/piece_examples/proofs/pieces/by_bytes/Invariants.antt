use Rattle.std.proofs.Common.{◌≤◌}
use Rattle.piece_examples.proofs.pieces.by_bytes.Given as goal

abbrev pub invariant-loop-place : goal.invariant-loop-place
invariant-loop-place l = l.reader.fed ≤ l.place
