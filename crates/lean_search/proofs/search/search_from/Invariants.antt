use Rattle.map_search.specs.Marks.{mark_at}
use Rattle.lean_search.specs.Workspace.{IsWorkspace, state_of}
use Rattle.lean_search.specs.Searched.{IsUnderway}
use Rattle.lean_search.proofs.search.search_from.Given as goal

abbrev pub invariant-loop-start : goal.invariant-loop-start
invariant-loop-start l = record {
  workspace : IsWorkspace l.graph l.workspace;
  underway : IsUnderway l.graph l.limit (state_of l.workspace) (mark_at l.settled) l.start;
}
