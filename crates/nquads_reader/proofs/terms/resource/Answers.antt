use Rattle.nquads_reader.proofs.LineTerms.{no_resource}
use Rattle.nquads_reader.proofs.terms.resource.Goals as goal

pub returns-in_default-blank_node_label : goal.returns-in_default-blank_node_label
returns-in_default-blank_node_label c = no_resource c.args.text.now (rw c.in_default.is at c.in_ok-iri.ensures) c.in_default-blank_node_label.ensures.none
