use Rattle.std.proofs.Common.{ap, ◌∙◌}
use Rattle.std.proofs.lemmas.List.{take_all}
use Rattle.std.specs.List.{flat_map}
use Rattle.canon_model.specs.Meaning.{meaning}
use Rattle.related_hash.specs.Entries.{entries_at}
use Rattle.dataset_index.proofs.QuadPlaces.{place_of_quad}
use Rattle.related_hash.proofs.QuadEntries.{entries_at_places}
use Rattle.related_hash.proofs.met.entries_of.Goals as goal

pub add_quad-requires-clause-place : goal.add_quad-requires-clause-place
add_quad-requires-clause-place c = place_of_quad c.args.call.now.dataset.now c.args.call.now.node c.quads_of-places.result.now c.loop-place.place-index c.quads_of-places.ensures c.loop-place-test.true

pub returns : goal.returns
returns c =
    c.loop-place.invariant
    ∙ ap (flat_map (entries_at (meaning c.args.call.now.profile) c.args.call.now.dataset.now c.args.call.now.canon.now.list c.args.call.now.issuer.now.list c.args.call.now.node))
    (take_all c.loop-place.place-index c.quads_of-places.result.now c.loop-place-test.false)
    ∙ entries_at_places (meaning c.args.call.now.profile) c.args.call.now.dataset.now c.args.call.now.canon.now.list c.args.call.now.issuer.now.list c.args.call.now.node c.quads_of-places.result.now
    c.quads_of-places.ensures
