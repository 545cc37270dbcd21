use Rattle.std.proofs.Common.{map, take}
use Rattle.rdf_terms.specs.Lists.{joined}
use Rattle.profile_hash.proofs.digest.digest_of_pieces.Given as goal

-- the texts so far
abbrev pub invariant-loop-piece : goal.invariant-loop-piece
invariant-loop-piece g l = g.D.Digest.holds l.hasher (joined (map (λ t. t.now) (take l.piece-index l.pieces)))
