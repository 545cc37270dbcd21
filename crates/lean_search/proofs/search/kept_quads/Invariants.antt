use Rattle.std.proofs.Common.{◌≡◌, take}
use Rattle.map_search.specs.Index.{kept}
use Rattle.lean_search.proofs.search.kept_quads.Given as goal

abbrev pub invariant-loop-place : goal.invariant-loop-place
invariant-loop-place l = l.left.items ≡ kept (take l.place l.quads) l.index.live
