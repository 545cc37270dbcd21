use Rattle.std.proofs.Common.{◌∙◌}
use Rattle.canon_core.proofs.IssuingEach.{issue_each-more}
use Rattle.canon_core.proofs.issuing.issue_all.Goals as goal

pub loop-node-preserved : goal.loop-node-preserved
loop-node-preserved c = record {
  list =
      issue_each-more c.args.issuer.now.list c.args.nodes.now c.loop-node.issuer.list c.issue.new.self.list c.loop-node.node-index _ c.loop-node-test.true c.loop-node.invariant.list
      c.in_ok-issue.ensures.list;
  prefix = c.issue.ensures.prefix ∙ c.loop-node.invariant.prefix;
}
