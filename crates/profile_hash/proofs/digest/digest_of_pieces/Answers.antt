use Rattle.std.proofs.Common.{map, subst, refl, ap, ◌∙◌}
use Rattle.std.proofs.lemmas.List.{take_all}
use Rattle.rdf_terms.specs.Lists.{joined}
use Rattle.profile_hash.proofs.Pieces.{joined-take_more}
use Rattle.profile_hash.proofs.digest.digest_of_pieces.Goals as goal

pub loop-piece-preserved : goal.loop-piece-preserved
loop-piece-preserved g c =
    subst (λ m. g.D.Digest.holds c.update.new.self m) (joined-take_more (λ t. t.now) c.args.pieces.now c.loop-piece.piece-index _ c.loop-piece-test.true) (c.update.ensures _ c.loop-piece.invariant)

pub returns : goal.returns
returns g c =
    subst (λ ts. g.D.Digest.digest_of (joined (map (λ t. t.now) ts)) c.finalize.result) (take_all c.loop-piece.piece-index c.args.pieces.now c.loop-piece-test.false)
    (c.finalize.ensures _ c.loop-piece.invariant)
