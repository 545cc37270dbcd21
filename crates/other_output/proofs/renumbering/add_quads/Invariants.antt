use Rattle.std.proofs.Common.{◌≡◌, map, take}
use Rattle.rdf_terms.specs.Document.{statements}
use Rattle.other_output.specs.Numbering.{moved}
use Rattle.other_output.proofs.renumbering.add_quads.Given as goal

abbrev pub invariant-loop-quad : goal.invariant-loop-quad
invariant-loop-quad l = record {
  statements_are : statements l.draft ≡ map (moved l.terms l.numbering.list) (take l.quad-index l.quads);
  labels_stay : l.draft.labels ≡ l.fn.draft.labels;
}
