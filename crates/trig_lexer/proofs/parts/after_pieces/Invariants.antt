use Rattle.std.proofs.Common.{length}
use denote.Text.{Utf8}
use denote.Shadow.{shadow}
use Rattle.trig_lexer.proofs.Parting.{Parted}
use Rattle.trig_lexer.proofs.parts.after_pieces.Given as goal

abbrev pub invariant-loop-next : goal.invariant-loop-next
invariant-loop-next l = record {
  end_utf8 : shadow (Utf8 l.end);
  rest_utf8 : shadow (Utf8 l.rest);
  parted : Parted l.part l.text l.end l.rest;
}

abbrev pub decreases-loop-next : goal.decreases-loop-next
decreases-loop-next l = length l.rest
