use Rattle.std.proofs.Common.{◌≡◌, ◌+◌, ◌*◌, ◌≤◌, length, map, take}
use Rattle.std.specs.List.{flat_map, AllZip}
use Rattle.rdf_terms.proofs.Common.{statements, AddsAll, statement_of}
use Rattle.nquads_reader.specs.Document.{mentioned, IsStatementOf}
use Rattle.nquads_reader.proofs.number.statement_refs.Given as goal

abbrev pub invariant-loop-quad : goal.invariant-loop-quad
invariant-loop-quad l = record {
  numbers : AllZip (IsStatementOf l.draft.labels) (take l.quad-index l.quads) (map statement_of l.refs.items);
  labels : AddsAll l.initial.draft.labels (flat_map mentioned (take l.quad-index l.quads)) l.draft.labels;
  statements : statements l.draft ≡ statements l.initial.draft;
  room : length l.draft.labels ≤ length l.initial.draft.labels + 3 * l.quad-index;
}
