use Rattle.std.proofs.Common.{◌≡◌, length, ap, ◌∙◌, arith}
use Rattle.other_output.proofs.AnonymousNodes.{interned_next, length-anonymous}
use Rattle.other_output.proofs.renumbering.add_node.Goals as goal

pub node-requires : goal.node-requires
node-requires c = let e : length c.args.draft.now.labels ≡ c.args.node = ap length c.requires.labels ∙ length-anonymous c.args.node in omega (arith, e, c.requires.room)

pub returns-clause-labels : goal.returns-clause-labels
returns-clause-labels c = interned_next _ _ _ _ c.requires.labels c.in_ok-node.ensures.ok
