use Rattle.std.proofs.Common.{◌≡◌, filter, map, take}
use Rattle.canon_model.specs.Allowed.{has_no_canonical}
use Rattle.canon_core.specs.HashOrder.{node_of}
use Rattle.canon_core.proofs.starts.unissued.Given as goal

abbrev pub invariant-loop-node : goal.invariant-loop-node
invariant-loop-node l = l.nodes.items ≡ filter (has_no_canonical l.canon.list) (map node_of (take l.node-index l.class))
