use Rattle.std.proofs.Common.{length}
use denote.Text.{Utf8}
use denote.Shadow.{shadow}
use Rattle.terminals.proofs.Tagging.{Subtagged}
use Rattle.terminals.proofs.tags.after_subtags.Given as goal

abbrev pub invariant-loop-next : goal.invariant-loop-next
invariant-loop-next l = record {
  utf8 : shadow (Utf8 l.rest);
  subtagged : Subtagged l.text l.rest;
}

abbrev pub decreases-loop-next : goal.decreases-loop-next
decreases-loop-next l = length l.rest
