use Rattle.std.proofs.Common.{length}
use denote.Text.{Utf8}
use denote.Shadow.{shadow}
use Rattle.trig_lexer.proofs.Longs.{Longing}
use Rattle.trig_lexer.proofs.quoted.after_long_string.Given as goal

abbrev pub invariant-loop-end : goal.invariant-loop-end
invariant-loop-end l = record {
  utf8 : shadow (Utf8 l.rest);
  longing : Longing l.quote l.text l.rest;
}

abbrev pub decreases-loop-end : goal.decreases-loop-end
decreases-loop-end l = length l.rest
