use Rattle.std.proofs.Common.{sym, ap, subst, ◌∙◌}
use Rattle.rdf_terms.specs.Lists.{numbers_below}
use Rattle.canonical_writer.specs.Determined.{ListsNodes}
use Rattle.canon_model.specs.Issuer.{issue_each}
use Rattle.other_output.proofs.OrderAlong.{lists_nodes-along}
use Rattle.other_output.proofs.order.order_along.Goals as goal

pub returns-clause-all : goal.returns-clause-all
returns-clause-all c =
    let canonical = c.in_ok-issue_all.ensures ∙ (λ i. issue_each (c.new-order.ensures.list i) (c.as_slice.ensures i)) in
    let right = c.in_ok-issue_all-2.ensures ∙ (λ i. issue_each (canonical i) (c.as_slice-2.ensures i)) in
    let is = c.in_ok-issue_below.ensures ∙ ap (λ list. issue_each list (numbers_below c.args.count)) right in
    subst (ListsNodes c.args.count) (sym is) (lists_nodes-along c.args.count c.args.tie.now.canon c.args.tie.now.right c.requires.canonical c.requires.right)
