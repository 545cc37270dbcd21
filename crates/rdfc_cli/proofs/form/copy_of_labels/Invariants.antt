use Rattle.std.proofs.Common.{◌≡◌, take}
use Rattle.rdfc_cli.proofs.form.copy_of_labels.Given as goal

-- the labels so far
abbrev pub invariant-loop-node : goal.invariant-loop-node
invariant-loop-node l = l.labels.items ≡ take l.node l.dataset.labels
