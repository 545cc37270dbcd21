use Rattle.std.proofs.Common.{◌≡◌}
use Rattle.rdf_terms.specs.Lists.{numbers_below}
use Rattle.canon_model.specs.Issuer.{issue_each}
use Rattle.other_output.proofs.order.issue_below.Given as goal

abbrev pub invariant-loop-node : goal.invariant-loop-node
invariant-loop-node l = l.order.list ≡ issue_each l.fn.order.list (numbers_below l.node)
