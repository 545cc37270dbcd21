use Rattle.std.proofs.Common.{◌≡◌, ◌<◌, ◌↔◌, length, sym, ap, ◌∙◌, subst, arith}
use Rattle.std.specs.List.{All}
use Rattle.rdf_terms.proofs.Common.{In, All-from_each}
use Rattle.map_search.specs.Pattern.{map_of}
use Rattle.lean_search.specs.Image.{IsReachedFrom}
use Rattle.lean_search.proofs.Shrinking.{leaves_reached}
use Rattle.lean_search.proofs.shrink.shrink.Goals as goal

pub places_reached-requires-clause-within : goal.places_reached-requires-clause-within
places_reached-requires-clause-within c =
    subst (All (λ k. k < length c.args.graph.now.quads)) (sym c.as_slice.ensures.value)
    (All-from_each (λ k. k < length c.args.graph.now.quads) c.in_ok-places.places.items (λ k i. ((c.in_ok-places.ensures k).0 i).within))

pub set_all-requires : goal.set_all-requires
set_all-requires c =
    let e : length c.args.index.now.quads ≡ length c.args.graph.now.quads = ap length c.requires.index.quads_are in
    subst (All (λ k. k < length c.args.index.now.quads)) (sym c.as_slice-2.ensures.value)
    (All-from_each (λ k. k < length c.args.index.now.quads) c.in_ok-places.places.items (λ k i. (let w = ((c.in_ok-places.ensures k).0 i).within in omega arith)))

pub set_all-requires-2 : goal.set_all-requires-2
set_all-requires-2 c =
    let e : length c.set_all.new.index.quads ≡ length c.args.graph.now.quads = ap length (c.set_all.ensures.quads ∙ c.requires.index.quads_are) in
    subst (All (λ k. k < length c.set_all.new.index.quads)) (sym c.as_slice-3.ensures.value)
    (All-from_each (λ k. k < length c.set_all.new.index.quads) c.in_ok-reached.reached.items (λ k i. (let w = ((c.in_ok-reached.ensures k).0 i).within in omega arith)))

pub returns-clause-reached : goal.returns-clause-reached
returns-clause-reached c =
    leaves_reached c.args.graph.now c.requires.one c.args.index.now.live c.set_all.new.index.live c.set_all-2.new.index.live c.args.walk.now c.args.own.now c.args.images.now
    c.in_ok-places.places.items c.in_ok-reached.reached.items c.requires.terms c.requires.index.count c.in_ok-places.ensures
    (λ k. subst (λ ps. In k c.in_ok-reached.reached.items ↔ IsReachedFrom c.args.graph.now (map_of c.args.own.now c.args.images.now) ps k) c.as_slice.ensures.value (c.in_ok-reached.ensures k))
    (λ k i. c.set_all.ensures.here k (subst (λ ps. In k ps) (sym c.as_slice-2.ensures.value) i) (let w = ((c.in_ok-places.ensures k).0 i).within in let n = c.requires.index.count in omega arith))
    (λ k out. c.set_all.ensures.others k (subst (λ ps. ¬ (In k ps)) (sym c.as_slice-2.ensures.value) out))
    (λ k i. c.set_all-2.ensures.here k (subst (λ ps. In k ps) (sym c.as_slice-3.ensures.value) i)
    (let w = ((c.in_ok-reached.ensures k).0 i).within in let n = c.requires.index.count in let m = c.set_all.ensures.count in omega arith))
    (λ k out. c.set_all-2.ensures.others k (subst (λ ps. ¬ (In k ps)) (sym c.as_slice-3.ensures.value) out))
