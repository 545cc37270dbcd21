use Rattle.std.proofs.Common.{[], ◌∷◌, ◌++◌, map, get_or, sym, ap, ◌∙◌}
use Rattle.std.proofs.lemmas.List.{map_more, take_all}
use Rattle.first_degree.specs.FirstHashes.{line_at}
use Rattle.dataset_index.proofs.QuadPlaces.{place_of_quad}
use Rattle.first_degree.proofs.Places.{lines_at_places}
use Rattle.first_degree.proofs.node_hash.write_lines.Goals as goal

pub push_line_at-requires : goal.push_line_at-requires
push_line_at-requires c = place_of_quad c.args.dataset.now c.args.node c.quads_of-places.result.now c.loop-place.place-index c.quads_of-places.ensures c.loop-place-test.true

pub loop-place-preserved : goal.loop-place-preserved
loop-place-preserved c =
    let line = line_at c.args.dataset.now c.args.node in
    c.in_ok-push_line_at.ensures
    ∙ (ap (λ ls. ls ++ line (get_or c.quads_of-places.result.now c.loop-place.place-index 0) ∷ []) c.loop-place.invariant
    ∙ sym (map_more line c.quads_of-places.result.now c.loop-place.place-index 0 c.loop-place-test.true))

pub returns : goal.returns
returns c =
    let line = line_at c.args.dataset.now c.args.node in
    c.loop-place.invariant
    ∙ (ap (map line) (take_all c.loop-place.place-index c.quads_of-places.result.now c.loop-place-test.false)
    ∙ (ap (map line) c.quads_of-places.ensures ∙ lines_at_places c.args.dataset.now c.args.node))
