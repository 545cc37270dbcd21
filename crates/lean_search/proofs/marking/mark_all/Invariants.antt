use Rattle.std.proofs.Common.{false}
use Rattle.lean_search.proofs.Setting.{AreSet}
use Rattle.lean_search.proofs.marking.mark_all.Given as goal

abbrev pub invariant-loop-node : goal.invariant-loop-node
invariant-loop-node l = AreSet false l.initial.marks l.marks l.nodes l.mark l.node-index
