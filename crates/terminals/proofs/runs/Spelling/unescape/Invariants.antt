use Rattle.std.proofs.Common.{length, string_bytes}
use denote.Text.{Utf8}
use denote.Shadow.{shadow}
use Rattle.terminals.specs.Spellings.{TextSpells}
use Rattle.terminals.proofs.Unescaping.{Left}
use Rattle.terminals.proofs.runs.Spelling.unescape.Given as goal

abbrev pub invariant-loop-c : goal.invariant-loop-c
invariant-loop-c l = record {
  utf8 : shadow (Utf8 l.rest);
  left : Left (TextSpells l.self.body) l.self.text.now l.rest (string_bytes l.into);
}

abbrev pub decreases-loop-c : goal.decreases-loop-c
decreases-loop-c l = length l.rest
