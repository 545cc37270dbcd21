use Rattle.std.proofs.Common.{map, get_or, ap, ◌∙◌, arith}
use Rattle.std.specs.Option.{option_map}
use Rattle.std.proofs.lemmas.Option.{slice_get-map, slice_get-get_or}
use Rattle.rdf_terms.specs.Document.{statement}
use Rattle.dataset_index.proofs.Defaults.{no_quad}
use Rattle.dataset_index.proofs.Mentioning.{AreMentions-more}
use Rattle.dataset_index.proofs.mentions.all_mentions.Goals as goal

pub loop-place-preserved : goal.loop-place-preserved
loop-place-preserved c =
    let terms = c.args.nodes.now in
    let quads = c.args.quads.now in
    let at = slice_get-map (statement terms) quads c.loop-place.place ∙ ap (option_map (statement terms)) (slice_get-get_or quads c.loop-place.place no_quad (omega arith)) in (
      AreMentions-more (map (statement terms) quads) c.loop-place.found.items c.push_mentions.new.found.items c.loop-place.place
          (statement terms (get_or quads c.loop-place.place no_quad)) at c.loop-place.invariant.0 c.in_ok-push_mentions.ensures.added,
      omega arith,
    )
