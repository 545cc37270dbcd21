use Rattle.other_output.proofs.OrderAlong.{issued_below_more}
use Rattle.other_output.proofs.order.issue_below.Goals as goal

pub loop-node-preserved : goal.loop-node-preserved
loop-node-preserved c = issued_below_more c.args.order.now.list c.loop-node.order.list c.issue.new.self.list c.loop-node.node c.loop-node.invariant c.in_ok-issue.ensures.list
