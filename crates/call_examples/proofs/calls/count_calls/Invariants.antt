use Rattle.std.proofs.Common.{◌≤◌}
use Rattle.call_examples.proofs.calls.count_calls.Given as goal

abbrev pub invariant-loop-node : goal.invariant-loop-node
invariant-loop-node l = record {
  few_ties : l.ties.total ≤ l.budget.spent;
}
