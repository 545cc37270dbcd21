use Rattle.std.proofs.Common.{ℕ, ◌↔◌, take}
use Rattle.rdf_terms.specs.Lists.{In}
use Rattle.lean_search.specs.Image.{IsPlaceOfWalk}
use Rattle.lean_search.proofs.shrink.places_of_walk.Given as goal

abbrev pub invariant-loop-node : goal.invariant-loop-node
invariant-loop-node l = (k : ℕ) → In k l.places.items ↔ IsPlaceOfWalk l.graph l.index.live (take l.node-index l.walk) k
