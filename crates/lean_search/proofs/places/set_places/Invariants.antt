use Rattle.lean_search.proofs.Placing.{ArePlaced}
use Rattle.lean_search.proofs.places.set_places.Given as goal

abbrev pub invariant-loop-place : goal.invariant-loop-place
invariant-loop-place l = ArePlaced l.initial.place_of l.place_of l.terms l.place
