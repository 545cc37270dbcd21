use Rattle.std.proofs.Common.{length}
use Rattle.terminals.proofs.Running.{Ran}
use Rattle.terminals.proofs.runs.run.Given as goal

abbrev pub invariant-loop-after : goal.invariant-loop-after
invariant-loop-after l = Ran l.body l.text l.rest l.has_escapes

abbrev pub decreases-loop-after : goal.decreases-loop-after
decreases-loop-after l = length l.rest
