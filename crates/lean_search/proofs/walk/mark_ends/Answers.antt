use Rattle.std.proofs.Common.{◌≡◌, get_or, ap, ◌∙◌}
use Rattle.rdf_terms.specs.Document.{term_at}
use Rattle.rdf_terms.specs.declared.term.Quad.{Quad}
use Rattle.dataset_index.specs.Mentions.{node_in}
use Rattle.map_search.specs.Index.{quad_at}
use Rattle.lean_search.proofs.Walking.{marked_ends}
use Rattle.lean_search.proofs.walk.mark_ends.Goals as goal

pub loop-place-preserved : goal.loop-place-preserved
loop-place-preserved c =
    let triple : c.quad-triple.result ≡ quad_at c.args.graph.now.quads (get_or c.args.places.now c.loop-place.place-index 0) = c.quad-triple.ensures
    ∙ ap (λ qs. quad_at qs (get_or c.args.places.now c.loop-place.place-index 0)) c.requires.index.quads_are in
    record {
      count = c.mark_node-in-loop-place.ensures.length ∙ (c.mark_node.ensures.length ∙ c.loop-place.invariant.count);
      marks =
          λ k. marked_ends c.args.graph.now c.args.places.now c.loop-place.place-index c.loop-place-test.true c.args.ahead.now c.loop-place.ahead c.mark_node.new.ahead
          c.mark_node-in-loop-place.new.ahead
          c.args.walked.now c.node_of.result c.node_of-in-loop-place.result
          (c.node_of.ensures.node ∙ ap (λ (q : Quad). node_in (term_at c.args.graph.now.terms q.s)) triple)
          (c.node_of-in-loop-place.ensures.node ∙ ap (λ (q : Quad). node_in (term_at c.args.graph.now.terms q.o)) triple)
          k (c.loop-place.invariant.marks k) (c.mark_node.ensures.marks k) (c.mark_node-in-loop-place.ensures.marks k);
    }
