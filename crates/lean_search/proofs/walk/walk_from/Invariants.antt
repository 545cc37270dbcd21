use Rattle.std.proofs.Common.{◌≤◌, length}
use Rattle.lean_search.specs.Image.{left}
use Rattle.lean_search.specs.Walk.{IsWalking}
use Rattle.lean_search.proofs.Walks.{HasWalked}
use Rattle.lean_search.proofs.Walking.{count_unmarked}
use Rattle.lean_search.proofs.walk.walk_from.Given as goal

abbrev pub invariant-loop-next : goal.invariant-loop-next
invariant-loop-next l = record {
  within : length l.graph.labels ≤ length l.ahead;
  walking : IsWalking (left l.graph l.index.live) l.walk.items l.walked l.ahead;
  walks : HasWalked (left l.graph l.index.live) l.start l.walk.items l.next;
}

abbrev pub decreases-loop-next : goal.decreases-loop-next
decreases-loop-next l = count_unmarked l.walked
