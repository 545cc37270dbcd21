use Rattle.std.proofs.Common.{◌≡◌, map}
use Rattle.rdf_terms.specs.Lists.{numbers_below}
use Rattle.canon_core.specs.HashOrder.{hash_in}
use Rattle.canon_core.proofs.node_order.with_nodes.Given as goal

abbrev pub invariant-loop-node : goal.invariant-loop-node
invariant-loop-node l = l.nodes.items ≡ map (λ n. (hash_in l.hashes n, n)) (numbers_below l.node)
