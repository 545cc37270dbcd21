use Rattle.std.proofs.Common.{◌≡◌, take}
use Rattle.canon_model.specs.Issuer.{issue_each}
use Rattle.other_output.proofs.order.issue_all.Given as goal

abbrev pub invariant-loop-node : goal.invariant-loop-node
invariant-loop-node l = l.order.list ≡ issue_each l.fn.order.list (take l.node-index l.nodes)
