use Rattle.std.proofs.Common.{ℕ, ◌-◌, ◌≤◌, length, drop}
use Rattle.rdf_terms.specs.Lists.{Text}
use Rattle.canon_core.specs.HashOrder.{IsRanked}
use Rattle.canon_core.proofs.AloneSoFar.{IsAloneSoFar}
use Rattle.canon_core.proofs.node_order.alone_nodes.Given as goal

abbrev pub invariant-loop-start : goal.invariant-loop-start
invariant-loop-start l = record {
  within : l.start ≤ length l.nodes;
  alone : (hash : ℕ → Text) (count : ℕ) → IsRanked hash count l.nodes → IsAloneSoFar hash count l.nodes l.alone.items (drop l.start l.nodes);
}

abbrev pub decreases-loop-start : goal.decreases-loop-start
decreases-loop-start l = length l.nodes - l.start
