use Rattle.std.proofs.Common.{List, add-one, ap, drop, drop-cons, get_or, sym, ℕ, ◌+◌, ◌++◌, ◌∙◌, ◌∷◌, ◌≡◌}
use Rattle.id_issuer.proofs.IssuedInTurn.{issued-next}
use Rattle.id_issuer.proofs.issuer.Issuer.issue_each.Goals as goal

pub loop-node-preserved : goal.loop-node-preserved
loop-node-preserved c =
    let n : ℕ = get_or c.args.nodes.now c.loop-node.node-index 0 in
    let rest : List ℕ = drop (c.loop-node.node-index + 1) c.args.nodes.now in
    let split : drop c.loop-node.node-index c.args.nodes.now ≡ n ∷ rest = rw (add-one, drop-cons c.args.nodes.now c.loop-node.node-index 0 c.loop-node-test.true) in
    record {
      list = issued-next c.loop-node.self.list rest (c.args.self.now.list ++ c.args.nodes.now) c.issue.new.self.list n
          (ap (λ l. c.loop-node.self.list ++ l) (sym split) ∙ c.loop-node.invariant.list) c.requires.new c.in_ok-issue.ensures.list;
      prefix = c.issue.ensures.prefix ∙ c.loop-node.invariant.prefix;
    }
