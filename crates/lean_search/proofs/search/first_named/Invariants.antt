use Rattle.std.proofs.Common.{◌≡◌, None}
use Rattle.std.specs.List.{All}
use Rattle.std.proofs.Common.{take}
use Rattle.lean_search.proofs.search.first_named.Given as goal

abbrev pub invariant-loop-quad : goal.invariant-loop-quad
invariant-loop-quad l = All (λ q. q.g ≡ None) (take l.quad-index l.quads)
