use Rattle.std.proofs.Common.{false}
use Rattle.lean_search.proofs.Setting.{set_next}
use Rattle.lean_search.proofs.marking.mark_all.Goals as goal

pub loop-node-preserved : goal.loop-node-preserved
loop-node-preserved c = set_next false c.args.marks.now c.loop-node.marks c.args.nodes.now c.args.mark c.loop-node.node-index c.loop-node-test.true c.loop-node.invariant
