use Rattle.other_output.proofs.OrderAlong.{issued_more}
use Rattle.other_output.proofs.order.issue_all.Goals as goal

pub loop-node-preserved : goal.loop-node-preserved
loop-node-preserved c =
    issued_more c.args.order.now.list c.args.nodes.now c.loop-node.order.list c.issue.new.self.list c.loop-node.node-index _ c.loop-node-test.true c.loop-node.invariant c.in_ok-issue.ensures.list
