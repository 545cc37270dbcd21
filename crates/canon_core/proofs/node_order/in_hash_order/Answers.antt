use Rattle.std.proofs.Common.{sym}
use Rattle.rdf_terms.proofs.Common.{permutes_trans, Permutes-from_equal}
use Rattle.canon_core.specs.HashOrder.{hash_in}
use Rattle.canon_core.proofs.RankedNodes.{ascends-sorted}
use Rattle.canon_core.proofs.node_order.in_hash_order.Goals as goal

pub returns-clause-ascends : goal.returns-clause-ascends
returns-clause-ascends c =
    ascends-sorted (hash_in c.args.hashes.now) c.args.count c.sort.new.nodes.items (permutes_trans (Permutes-from_equal (sym c.in_ok-nodes.ensures)) c.sort.ensures.permutes) c.sort.ensures.sorted
