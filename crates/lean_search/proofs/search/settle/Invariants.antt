use Rattle.std.proofs.Common.{◌≡◌, false}
use Rattle.map_search.specs.Marks.{mark_at}
use Rattle.lean_search.specs.Workspace.{IsWorkspace, state_of}
use Rattle.lean_search.specs.Searched.{IsUnderway, count_left}
use Rattle.lean_search.proofs.search.settle.Given as goal

abbrev pub invariant-turns : goal.invariant-turns
invariant-turns l = record {
  workspace : IsWorkspace l.graph l.workspace;
  underway : IsUnderway l.graph l.limit (state_of l.workspace) (mark_at l.settled) l.start;
  unsettled : mark_at l.settled l.start ≡ false;
}

abbrev pub decreases-turns : goal.decreases-turns
decreases-turns l = count_left l.workspace.index.live
