use Rattle.other_output.proofs.Moved.{places_of_these, distinct_of_these, valid_of_these}
use Rattle.other_output.proofs.renumbering.moved_draft.Goals as goal

pub add_quads-requires-clause-places : goal.add_quads-requires-clause-places
add_quads-requires-clause-places c = places_of_these c.args.dataset.now c.args.order.now.list c.requires.document c.requires.order _ _ c.terms-terms.ensures.terms c.quads-quads.ensures.quads

pub add_quads-requires-clause-valid : goal.add_quads-requires-clause-valid
add_quads-requires-clause-valid c = valid_of_these c.args.dataset.now c.args.order.now.list c.requires.document c.requires.order _ _ c.terms-terms.ensures.terms c.quads-quads.ensures.quads
    c.add_nodes.new.draft.labels c.node_count.result c.node_count.ensures.count c.in_ok-add_nodes.ensures.labels

pub add_quads-requires-clause-distinct : goal.add_quads-requires-clause-distinct
add_quads-requires-clause-distinct c = distinct_of_these c.args.dataset.now c.args.order.now.list c.requires.document c.requires.order _ _ c.terms-terms.ensures.terms c.quads-quads.ensures.quads
