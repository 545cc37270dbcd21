use Rattle.other_output.proofs.Moved.{carries_built}
use Rattle.other_output.proofs.renumbering.renumbered.Goals as goal

pub returns : goal.returns
returns c =
    carries_built c.args.dataset.now c.args.order.now.list c.node_count-nodes.ensures.document c.requires _ _ _ c.in_ok-draft.ensures.labels c.in_ok-draft.ensures.statements
    c.in_ok-parsed.ensures.whole c.in_ok-built.ensures.labels c.in_ok-built.ensures.statements
