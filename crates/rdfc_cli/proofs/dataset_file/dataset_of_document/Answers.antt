use Rattle.std.proofs.Common.{List, refl, subst, sym}
use Rattle.rdf_terms.specs.Document.{statements}
use Rattle.rdf_terms.specs.declared.term.Label.{Label}
use Rattle.rdfc_cli.specs.Answers.{States}
use Rattle.rdfc_cli.proofs.dataset_file.dataset_of_document.Goals as goal

pub returns-clause-accepted : goal.returns-clause-accepted
returns-clause-accepted c syntax bytes states = record {
  stated = statements c.args.parsed;
  states = subst (λ (ls : List Label). States syntax bytes ls (statements c.args.parsed)) (sym c.in_ok-dataset.ensures.labels) states;
  nodes_are = refl;
  quads_are = c.in_ok-dataset.ensures.statements;
  valid = c.node_count-nodes.ensures.valid;
}
