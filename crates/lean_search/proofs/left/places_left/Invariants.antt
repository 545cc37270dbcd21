use Rattle.std.proofs.Common.{◌≡◌, take}
use Rattle.std.specs.List.{filter}
use Rattle.map_search.specs.Marks.{mark_at}
use Rattle.lean_search.proofs.left.places_left.Given as goal

abbrev pub invariant-loop-place : goal.invariant-loop-place
invariant-loop-place l = l.places.items ≡ filter (mark_at l.index.live) (take l.place-index l.place-items)
