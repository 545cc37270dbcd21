use Rattle.std.proofs.Common.{ℕ, ◌↔◌, take}
use Rattle.rdf_terms.specs.Lists.{In}
use Rattle.map_search.specs.Pattern.{map_of}
use Rattle.lean_search.specs.Image.{IsReachedFrom}
use Rattle.lean_search.proofs.shrink.places_reached.Given as goal

abbrev pub invariant-loop-place : goal.invariant-loop-place
invariant-loop-place l = (k : ℕ) → In k l.reached.items ↔ IsReachedFrom l.graph (map_of l.own l.images) (take l.place-index l.places) k
