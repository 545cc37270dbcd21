use Rattle.std.proofs.Common.{◌≡◌, ◌+◌, ◌*◌, ◌≤◌, ◌++◌, List, length}
use Rattle.rdf_terms.proofs.Common.{Text, statements}
use Rattle.nquads_reader.specs.Lines.{lines_of}
use Rattle.nquads_reader.specs.Feeding.{TakesLines}
use Rattle.nquads_reader.proofs.read_lines.read_lines.Given as goal

abbrev pub invariant-loop-rest : goal.invariant-loop-rest
invariant-loop-rest l = record {
  passed : List Text;
  splits : lines_of l.bytes ≡ passed ++ lines_of l.rest;
  takes : TakesLines passed l.initial.draft l.draft l.initial.lines l.lines;
  quads : 7 * length (statements l.draft) + length l.rest ≤ 7 * length (statements l.initial.draft) + length l.bytes;
  labels : 7 * length l.draft.labels + 3 * length l.rest ≤ 7 * length l.initial.draft.labels + 3 * length l.bytes;
  few : l.lines + length l.rest ≤ l.initial.lines + length l.bytes;
}

abbrev pub decreases-loop-rest : goal.decreases-loop-rest
decreases-loop-rest l = length l.rest
