use Rattle.std.proofs.Common.{length}
use denote.Text.{Utf8}
use denote.Shadow.{shadow}
use Rattle.terminals.proofs.Labelling.{Labelled}
use Rattle.terminals.proofs.labels.after_label.Given as goal

abbrev pub invariant-loop-c : goal.invariant-loop-c
invariant-loop-c l = record {
  end_utf8 : shadow (Utf8 l.end);
  rest_utf8 : shadow (Utf8 l.rest);
  labelled : Labelled l.grammar l.text l.end l.rest;
}

abbrev pub decreases-loop-c : goal.decreases-loop-c
decreases-loop-c l = length l.rest
