use Rattle.std.proofs.Common.{◌≡◌, take}
use Rattle.canon_model.specs.Issuer.{issue_each}
use Rattle.canon_core.proofs.issuing.issue_all.Given as goal

abbrev pub invariant-loop-node : goal.invariant-loop-node
invariant-loop-node l = record {
  list : l.issuer.list ≡ issue_each l.fn.issuer.list (take l.node-index l.nodes);
  prefix : l.issuer.prefix ≡ l.fn.issuer.prefix;
}
