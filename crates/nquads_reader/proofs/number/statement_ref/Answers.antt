use Rattle.rdf_terms.specs.References.{term_of, graph_name_of}
use Rattle.nquads_reader.proofs.Numbering.{quad_labels, quad_statement}
use Rattle.nquads_reader.proofs.number.statement_ref.Goals as goal

pub returns-clause-numbers : goal.returns-clause-numbers
returns-clause-numbers c =
    rw c.as_str.ensures (quad_statement c.args.quad.now c.args.draft.now.labels c.resource_term.new.draft.labels c.object_term.new.draft.labels c.graph_name_term.new.draft.labels
    (term_of c.in_ok-subject.subject) (term_of c.in_ok-object.object) (graph_name_of c.in_ok-graph_name.graph_name)
    c.in_ok-subject.ensures.labels c.in_ok-object.ensures.labels c.in_ok-graph_name.ensures.labels c.in_ok-subject.ensures.term c.in_ok-object.ensures.term c.in_ok-graph_name.ensures.term)

pub returns-clause-labels : goal.returns-clause-labels
returns-clause-labels c =
    quad_labels c.args.quad.now c.args.draft.now.labels c.resource_term.new.draft.labels c.object_term.new.draft.labels c.graph_name_term.new.draft.labels (term_of c.in_ok-subject.subject)
    (term_of c.in_ok-object.object) (graph_name_of c.in_ok-graph_name.graph_name)
    c.in_ok-subject.ensures.labels c.in_ok-object.ensures.labels c.in_ok-graph_name.ensures.labels c.in_ok-subject.ensures.term c.in_ok-object.ensures.term c.in_ok-graph_name.ensures.term
