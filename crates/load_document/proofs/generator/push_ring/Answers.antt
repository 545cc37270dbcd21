use Rattle.load_document.specs.LoadDocument.{ring_lines}
use Rattle.load_document.proofs.Parts.{more_parts}
use Rattle.load_document.proofs.generator.push_ring.Goals as goal

pub loop-node-preserved : goal.loop-node-preserved
loop-node-preserved c = more_parts (ring_lines c.args.count) _ _ _ c.loop-node.node c.loop-node.invariant c.in_ok-push_node_of_ring.ensures
