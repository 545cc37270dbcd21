use Rattle.std.proofs.Common.{◌≡◌, ◌+◌, ◌<◌, ◌↔◌, IfSome, take, length, get_or, ap, sym, ◌∙◌, subst, arith}
use Rattle.std.specs.Option.{IfNone}
use Rattle.rdf_terms.specs.Lists.{In}
use Rattle.rdf_terms.specs.declared.term.Quad.{Quad}
use Rattle.map_search.specs.Index.{quad_at}
use Rattle.map_search.specs.Pattern.{carried, map_of}
use Rattle.lean_search.specs.Image.{IsReachedFrom}
use Rattle.lean_search.proofs.Reaching.{all_reached, more_reached}
use Rattle.lean_search.proofs.shrink.places_reached.Goals as goal

pub loop-place-preserved : goal.loop-place-preserved
loop-place-preserved c =
    let at : c.quad_in-triple.result ≡ quad_at c.args.graph.now.quads (get_or c.args.places.now c.loop-place.place-index 0) = c.quad_in-triple.ensures
    ∙ ap (λ qs. quad_at qs (get_or c.args.places.now c.loop-place.place-index 0)) c.quads.ensures.quads in
    let to : c.carried_by-carried.result
    ≡ carried (map_of c.args.own.now c.args.images.now) (quad_at c.args.graph.now.quads (get_or c.args.places.now c.loop-place.place-index 0)) =
    c.carried_by-carried.ensures ∙ ap (carried (map_of c.args.own.now c.args.images.now)) at in
    let some = subst (λ (q : Quad). IfSome c.place_in.result (λ j. (j < length c.args.graph.now.quads) × (quad_at c.args.graph.now.quads j ≡ q))) to
    (subst (λ qs. IfSome c.place_in.result (λ j. (j < length qs) × (quad_at qs j ≡ c.carried_by-carried.result))) c.quads-in-loop-place.ensures.quads c.place_in.ensures.some) in
    let none = subst (λ (q : Quad). IfNone c.place_in.result (¬ (In q c.args.graph.now.quads))) to
    (subst (λ qs. IfNone c.place_in.result (¬ (In c.carried_by-carried.result qs))) c.quads-in-loop-place.ensures.quads c.place_in.ensures.none) in
    λ k. subst (λ xs. In k xs ↔ IsReachedFrom c.args.graph.now (map_of c.args.own.now c.args.images.now) (take (c.loop-place.place-index + 1) c.args.places.now) k) (sym c.in_ok-push_some.ensures)
    (more_reached c.args.graph.now
    (map_of c.args.own.now c.args.images.now) c.args.places.now c.loop-place.reached.items c.loop-place.place-index c.place_in.result c.requires.one.quads_once c.loop-place-test.true some none
    c.loop-place.invariant k)

pub returns : goal.returns
returns c = all_reached c.args.graph.now (map_of c.args.own.now c.args.images.now) c.args.places.now c.loop-place.reached.items c.loop-place.place-index
    (let n = c.loop-place-test.false in omega arith) c.loop-place.invariant
