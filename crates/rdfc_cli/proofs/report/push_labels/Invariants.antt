use Rattle.std.proofs.Common.{◌≡◌, ◌++◌, take, flat_map}
use Rattle.rdfc_cli.specs.Reports.{spaced_label}
use Rattle.rdfc_cli.proofs.report.push_labels.Given as goal

-- the labels so far
abbrev pub invariant-loop-node : goal.invariant-loop-node
invariant-loop-node l = l.out.items ≡ l.fn.out.items ++ flat_map (spaced_label l.dataset.labels) (take l.node-index l.nodes)
