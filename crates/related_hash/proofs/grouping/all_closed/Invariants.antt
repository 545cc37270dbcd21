use Rattle.std.proofs.Common.{length}
use Rattle.canon_model.specs.Meaning.{meaning}
use Rattle.related_hash.proofs.SoFar.{AreArrangedBefore}
use Rattle.related_hash.proofs.grouping.all_closed.Given as goal

abbrev pub invariant-loop-group : goal.invariant-loop-group
invariant-loop-group l = AreArrangedBefore (meaning l.profile) l.fn.groups l.open l.closed_groups.items

abbrev pub decreases-loop-group : goal.decreases-loop-group
decreases-loop-group l = length l.open
