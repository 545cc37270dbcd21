use Rattle.std.proofs.Common.{◌++◌, ◌∷◌, [], sym, ◌∙◌}
use Rattle.std.proofs.lemmas.List.{map_more}
use Rattle.rdf_terms.specs.Ends.{ends_of}
use Rattle.rdf_terms.proofs.ends.hashed_ends.Goals as goal

pub loop-quad-preserved : goal.loop-quad-preserved
loop-quad-preserved c =
    c.in_ok-push.ensures.items ∙ (λ i. c.loop-quad.invariant i ++ c.new.ensures i ∷ []) ∙ sym (map_more (ends_of c.args.keys) c.args.quads.now c.loop-quad.quad-index _ c.loop-quad-test.true)
