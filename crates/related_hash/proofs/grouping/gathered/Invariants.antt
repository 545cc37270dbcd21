use Rattle.std.proofs.Common.{vec_len}
use Rattle.related_hash.proofs.SoFar.{HoldRest}
use Rattle.related_hash.proofs.grouping.gathered.Given as goal

abbrev pub invariant-loop-entry : goal.invariant-loop-entry
invariant-loop-entry l = HoldRest l.fn.entries.items l.entries.items l.groups

abbrev pub decreases-loop-entry : goal.decreases-loop-entry
decreases-loop-entry l = vec_len l.entries
