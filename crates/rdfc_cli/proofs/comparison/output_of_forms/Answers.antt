use Rattle.std.proofs.Common.{length, sym, subst}
use Rattle.rdfc_cli.specs.Forms.{HasNodesBelow, IsVerdictOutput}
use Rattle.rdfc_cli.proofs.Answering.{if_ok}
use Rattle.rdfc_cli.proofs.Pairing.{forms-nodes_below, forms-output}
use Rattle.rdfc_cli.proofs.comparison.output_of_forms.Goals as goal

pub output_of_verdict-requires : goal.output_of_verdict-requires
output_of_verdict-requires c =
    let first = c.args.first in
    let second = c.args.second in
    let verdict = c.in_ok-verdict.verdict in
    subst (λ labels. HasNodesBelow (length labels) (length c.deref-2.result.now) verdict) (sym c.deref.ensures.value)
    (subst (λ labels. HasNodesBelow (length first.labels.items) (length labels) verdict) (sym c.deref-2.ensures.value)
    (forms-nodes_below c.args.settings first second c.requires.first.0 c.requires.second.0 c.requires.first.1 c.requires.second.1
    c.in-Some.canon c.in-Some-other.other c.in-Some.is c.in-Some-other.is verdict c.in_ok-verdict.ensures))

pub returns-clause-output : goal.returns-clause-output
returns-clause-output c =
    let first = c.args.first in
    let second = c.args.second in
    let verdict = c.in_ok-verdict.verdict in
    if_ok c.output_of_verdict.result (λ output o content other f g.
    forms-output c.args.settings first second content other f g c.in-Some.canon c.in-Some-other.other c.in-Some.is c.in-Some-other.is verdict c.in_ok-verdict.ensures output
    (subst (λ labels. IsVerdictOutput labels second.labels.items verdict output) c.deref.ensures.value
    (subst (λ labels. IsVerdictOutput c.deref.result.now labels verdict output) c.deref-2.ensures.value o))) c.output_of_verdict.ensures.output
