use Rattle.std.proofs.Common.{◌≤◌}
use Rattle.rdfc_cli.specs.Notes.{part_text}
use Rattle.rdfc_cli.proofs.Putting.{IsPutTo}
use Rattle.rdfc_cli.proofs.notes.put_parts.Given as goal

abbrev pub invariant-loop-part : goal.invariant-loop-part
invariant-loop-part g l = record {
  put : IsPutTo part_text (g.N.Sink.taken l.fn.notes) (g.N.Sink.taken l.notes) l.parts l.part-index;
  never_fell : g.N.Sink.faults l.fn.notes ≤ g.N.Sink.faults l.notes;
}
