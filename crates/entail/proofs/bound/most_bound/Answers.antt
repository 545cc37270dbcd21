use Rattle.std.proofs.Common.{sym, subst}
use Rattle.rdf_terms.proofs.Common.{In, In-get_or}
use Rattle.entail.proofs.bound.most_bound.Goals as goal
use Rattle.entail.proofs.bound.most_bound.Goals.{then-candidates-fewest, else-candidates-fewest}

pub loop-node-preserved : goal.loop-node-preserved
loop-node-preserved c = elim c.if-candidates-fewest.branch [
  | then-candidates-fewest w ↦ subst (λ x. In x c.args.walk.now) (sym w.best-is) (In-get_or c.args.walk.now c.loop-node.node-index 0 c.loop-node-test.true)
  | else-candidates-fewest w ↦ subst (λ x. In x c.args.walk.now) (sym w.best-is) c.loop-node.invariant
]
