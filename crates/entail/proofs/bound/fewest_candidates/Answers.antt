use Rattle.std.proofs.Common.{◌≡◌, ℕ, ◌<◌, List, length, get_or, sym, ap, ◌∙◌, subst}
use Rattle.rdf_terms.proofs.Common.{In, In-get_or}
use Rattle.rdf_terms.specs.Document.{Document, statements}
use Rattle.dataset_index.specs.Mentions.{places_of}
use Rattle.map_search.specs.Index.{quad_at}
use Rattle.component_walk.proofs.AtNodes.{In-quad_at, place_of_node}
use Rattle.entail.proofs.bound.fewest_candidates.Goals as goal

place_below : (e : Document) (n : ℕ) (places : List ℕ) (k : ℕ) → places ≡ places_of (statements e) n → k < length places → get_or places k 0 < length e.quads
place_below e n places k are l = (place_of_node e n (get_or places k 0) (subst (λ ps. In (get_or places k 0) ps) are (In-get_or places k 0 l))).0

pub quad_in-requires : goal.quad_in-requires
quad_in-requires c =
    subst (λ qs. get_or c.quads_of-places.result.now c.loop-place.place-index 0 < length qs) (sym c.quads-quads.ensures.quads)
    (place_below c.args.crossing.now.entailed.now c.args.node c.quads_of-places.result.now c.loop-place.place-index c.quads_of-places.ensures c.loop-place-test.true)

pub candidates-requires-clause-there : goal.candidates-requires-clause-there
candidates-requires-clause-there c =
    subst (λ q. In q c.args.crossing.now.entailed.now.quads)
    (sym (c.quad_in.ensures ∙ ap (λ qs. quad_at qs (get_or c.quads_of-places.result.now c.loop-place.place-index 0)) c.quads-quads.ensures.quads))
    (In-quad_at c.args.crossing.now.entailed.now.quads (get_or c.quads_of-places.result.now c.loop-place.place-index 0)
    (place_below c.args.crossing.now.entailed.now c.args.node c.quads_of-places.result.now c.loop-place.place-index c.quads_of-places.ensures c.loop-place-test.true))
