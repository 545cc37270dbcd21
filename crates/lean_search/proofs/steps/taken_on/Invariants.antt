use Rattle.std.proofs.Common.{◌≡◌, take, map, get_or}
use Rattle.lean_search.proofs.steps.taken_on.Given as goal

abbrev pub invariant-loop-image : goal.invariant-loop-image
invariant-loop-image l = l.taken.items ≡ map (λ x. get_or l.to x 0) (take l.image-index l.images)
