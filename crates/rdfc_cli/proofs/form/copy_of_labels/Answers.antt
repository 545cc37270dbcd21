use Rattle.std.proofs.Common.{arith}
use Rattle.rdfc_cli.proofs.Pairing.{one_more_label}
use Rattle.rdfc_cli.proofs.form.copy_of_labels.Goals as goal

pub loop-node-preserved : goal.loop-node-preserved
loop-node-preserved c =
    one_more_label c.args.dataset.now.labels c.loop-node.labels.items _ c.loop-node.node c.label.result.now c.in_ok-copy_of_label.field-0
    (omega (arith, c.loop-node-test.true, c.node_count-node-end.ensures.count)) c.label.ensures.label
    c.in_ok-copy_of_label.ensures c.loop-node.invariant c.in_ok-push.ensures.items
