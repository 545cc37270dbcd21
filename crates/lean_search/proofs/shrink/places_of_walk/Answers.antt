use Rattle.std.proofs.Common.{◌≡◌, ◌+◌, ◌++◌, ◌↔◌, take, get_or, ap, sym, ◌∙◌, subst, arith}
use Rattle.std.specs.List.{filter}
use Rattle.rdf_terms.proofs.Common.{In, statements}
use Rattle.dataset_index.specs.Mentions.{places_of}
use Rattle.map_search.specs.Marks.{mark_at}
use Rattle.lean_search.specs.Image.{IsPlaceOfWalk}
use Rattle.lean_search.proofs.Reaching.{all_places, more_places}
use Rattle.lean_search.proofs.shrink.places_of_walk.Goals as goal

pub loop-node-preserved : goal.loop-node-preserved
loop-node-preserved c =
    let e : c.extend_from_slice.new.self.items
    ≡ c.loop-node.places.items ++ filter (mark_at c.args.index.now.live) (places_of (statements c.args.graph.now) (get_or c.args.walk.now c.loop-node.node-index 0)) =
    c.in_ok-extend_from_slice.ensures.items ∙ ap (λ xs. c.loop-node.places.items ++ xs) (c.as_slice.ensures.value ∙ c.in_ok-more.ensures) in
    λ k. subst (λ xs. In k xs ↔ IsPlaceOfWalk c.args.graph.now c.args.index.now.live (take (c.loop-node.node-index + 1) c.args.walk.now) k) (sym e)
    (more_places c.args.graph.now c.args.index.now.live c.args.walk.now c.loop-node.places.items c.loop-node.node-index c.loop-node-test.true c.loop-node.invariant k)

pub returns : goal.returns
returns c = all_places c.args.graph.now c.args.index.now.live c.args.walk.now c.loop-node.places.items c.loop-node.node-index (let n = c.loop-node-test.false in omega arith) c.loop-node.invariant
