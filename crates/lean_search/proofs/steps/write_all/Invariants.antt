use Rattle.std.proofs.Common.{◌≡◌, drop}
use Rattle.lean_search.specs.Steps.{put_all}
use Rattle.lean_search.proofs.steps.write_all.Given as goal

abbrev pub invariant-loop-place : goal.invariant-loop-place
invariant-loop-place l = put_all l.to (drop l.place l.terms) (drop l.place l.images) ≡ put_all l.initial.to l.terms l.images
