use Rattle.std.proofs.Common.{◌++◌, codes, get_or, ap, sym, ◌∙◌, append_assoc}
use Rattle.rdfc_cli.specs.Reports.{spaced_label, label_text}
use Rattle.rdfc_cli.proofs.ReportTexts.{one_more_text, label_in-at}
use Rattle.rdfc_cli.proofs.report.push_labels.Goals as goal
use Rattle.rdf_terms.proofs.MadeLists.{In-get_or}

pub label-requires : goal.label-requires
label-requires c = c.requires _ (In-get_or c.args.nodes.now c.loop-node.node-index 0 c.loop-node-test.true)

pub loop-node-preserved : goal.loop-node-preserved
loop-node-preserved c =
    let before = c.loop-node.out.items in
    c.in_ok-push_label.ensures
    ∙ ap (λ l. l ++ label_text c.label.result.now) c.in_ok-extend_from_slice.ensures.items
    ∙ append_assoc before (codes " ") (label_text c.label.result.now)
    ∙ ap (λ l. before ++ (codes " " ++ l)) (sym (label_in-at c.args.dataset.now.labels _ c.label.result.now c.label.ensures.label))
    ∙ ap (λ l. l ++ spaced_label c.args.dataset.now.labels (get_or c.args.nodes.now c.loop-node.node-index 0)) c.loop-node.invariant
    ∙ one_more_text (spaced_label c.args.dataset.now.labels) c.args.out.now.items c.args.nodes.now c.loop-node.node-index c.loop-node-test.true
