use Rattle.std.proofs.Common.{drop, ◌++◌, ◌≡◌}
use Rattle.id_issuer.proofs.issuer.Issuer.issue_each.Given as goal

abbrev pub invariant-loop-node : goal.invariant-loop-node
invariant-loop-node l = record {
  list : l.self.list ++ drop l.node-index l.nodes ≡ l.fn.self.list ++ l.nodes;
  prefix : l.self.prefix ≡ l.fn.self.prefix;
}
