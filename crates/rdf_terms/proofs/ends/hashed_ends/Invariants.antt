use Rattle.std.proofs.Common.{◌≡◌, map, take}
use Rattle.rdf_terms.specs.Ends.{ends_of}
use Rattle.rdf_terms.proofs.ends.hashed_ends.Given as goal

abbrev pub invariant-loop-quad : goal.invariant-loop-quad
invariant-loop-quad l = l.ends.items ≡ map (ends_of l.keys) (take l.quad-index l.quads)
