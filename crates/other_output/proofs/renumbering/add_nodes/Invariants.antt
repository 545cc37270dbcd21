use Rattle.std.proofs.Common.{◌≡◌, map}
use Rattle.rdf_terms.specs.Lists.{numbers_below}
use Rattle.rdf_terms.specs.Document.{statements}
use Rattle.rdf_terms.specs.declared.term.Label.TheVariants.{Anonymous}
use Rattle.other_output.proofs.renumbering.add_nodes.Given as goal

abbrev pub invariant-loop-node : goal.invariant-loop-node
invariant-loop-node l = record {
  labels : l.draft.labels ≡ map Anonymous (numbers_below l.node);
  statements_stay : statements l.draft ≡ statements l.fn.draft;
}
