use Rattle.std.proofs.Common.{length}
use denote.Text.{Utf8}
use denote.Shadow.{shadow}
use Rattle.trig_lexer.specs.Fronts.{TextReads}
use Rattle.trig_lexer.specs.WhiteSpace.{AreGapsThen}
use Rattle.trig_lexer.proofs.white_space.after_gaps.Given as goal

abbrev pub invariant-loop-next : goal.invariant-loop-next
invariant-loop-next l = record {
  utf8 : shadow (Utf8 l.rest);
  gaps : TextReads AreGapsThen l.text l.rest;
}

abbrev pub decreases-loop-next : goal.decreases-loop-next
decreases-loop-next l = length l.rest
