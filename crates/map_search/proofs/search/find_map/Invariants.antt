use Rattle.std.proofs.Common.{◌+◌, ◌-◌, ◌*◌, ◌<◌, ◌≤◌, length}
use Rattle.map_search.proofs.Steps.{State, total}
use Rattle.map_search.proofs.search.find_map.Given as goal

abbrev pub invariant-maps : goal.invariant-maps
invariant-maps g l = record {
  limit : l.tried ≤ l.limit;
  short : length l.images.items < l.places;
  underway : State (g.P.Problem.bound l.problem) (g.P.Problem.fits l.problem) l.places (g.P.Problem.sought l.problem) l.images.items l.from l.tried;
}

-- each map that is tried counts twice, and adds one image at most
abbrev pub decreases-maps : goal.decreases-maps
decreases-maps g l = 2 * (total (g.P.Problem.bound l.problem) (g.P.Problem.fits l.problem) l.places (g.P.Problem.sought l.problem) - l.tried) + length l.images.items
