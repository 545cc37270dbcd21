use Rattle.std.proofs.Common.{◌++◌, ◌∷◌, [], if◌then◌else◌, take, sym, ap, ◌∙◌, add-one}
use Rattle.rdf_terms.specs.declared.term.Quad.{Quad}
use Rattle.map_search.specs.Index.{kept, no_quad, quad_at}
use Rattle.map_search.specs.Marks.{mark_at}
use Rattle.lean_search.proofs.Ending.{kept-more}
use Rattle.lean_search.proofs.search.kept_quads.Goals as goal

pub loop-place-preserved : goal.loop-place-preserved
loop-place-preserved c =
    c.in_ok-push_if.ensures
    ∙ (ap (λ b. c.loop-place.left.items ++ (if b then c.quad_in-quad.result ∷ [] else [])) c.has.ensures
    ∙ (ap (λ (q : Quad). c.loop-place.left.items ++ (if mark_at c.args.index.now.live c.loop-place.place then q ∷ [] else [])) c.quad_in-quad.ensures
    ∙ (ap (λ xs. xs ++ (if mark_at c.args.index.now.live c.loop-place.place then quad_at c.args.quads.now c.loop-place.place ∷ [] else [])) c.loop-place.invariant
    ∙ (sym (kept-more c.args.quads.now c.args.index.now.live c.loop-place.place no_quad c.loop-place-test.true)
    ∙ ap (λ n. kept (take n c.args.quads.now) c.args.index.now.live) (sym (add-one c.loop-place.place))))))
