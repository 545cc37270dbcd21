use Rattle.std.proofs.Common.{length, string_bytes}
use denote.Text.{Utf8}
use denote.Shadow.{shadow}
use Rattle.terminals.proofs.Unescaping.{Left}
use Rattle.trig_terms.specs.Values.{TextMeans}
use Rattle.trig_terms.proofs.strings.long_value.Given as goal

abbrev pub invariant-loop-piece : goal.invariant-loop-piece
invariant-loop-piece l = record {
  utf8 : shadow (Utf8 l.rest);
  left : Left (TextMeans l.quote) l.inside l.rest (string_bytes l.value);
}

abbrev pub decreases-loop-piece : goal.decreases-loop-piece
decreases-loop-piece l = length l.rest
