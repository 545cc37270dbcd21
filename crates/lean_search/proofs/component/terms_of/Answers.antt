use Rattle.std.proofs.Common.{◌++◌, ◌∷◌, [], ◌<◌, length, map, take, get_or, sym, ap, ◌∙◌, subst}
use Rattle.std.specs.List.{All}
use Rattle.std.proofs.lemmas.List.{map-append, take_more}
use Rattle.std.proofs.lemmas.List.Elements.{All-push}
use Rattle.std.proofs.lemmas.Option.{get_or_from_slice_get, slice_get_within}
use Rattle.rdf_terms.specs.Document.{term_at}
use Rattle.rdf_terms.specs.declared.term.Term.TheVariants.{Blank}
use Rattle.lean_search.proofs.component.terms_of.Goals as goal

pub loop-node-preserved : goal.loop-node-preserved
loop-node-preserved c = record {
  terms = ap (map (term_at c.args.graph.now.terms)) c.in_ok-push.ensures.items
      ∙ (map-append (term_at c.args.graph.now.terms) c.loop-node.terms.items (c.term_of.result ∷ [])
      ∙ (ap (λ xs. xs ++ term_at c.args.graph.now.terms c.term_of.result ∷ []) c.loop-node.invariant.terms
      ∙ (ap (λ t. map Blank (take c.loop-node.node-index c.args.walk.now) ++ t ∷ [])
      (get_or_from_slice_get c.args.graph.now.terms c.term_of.result (Blank (get_or c.args.walk.now c.loop-node.node-index 0)) (Blank 0) c.term_of.ensures)
      ∙ (sym (map-append Blank (take c.loop-node.node-index c.args.walk.now) (get_or c.args.walk.now c.loop-node.node-index 0 ∷ []))
      ∙ ap (map Blank) (sym (take_more c.args.walk.now c.loop-node.node-index 0 c.loop-node-test.true))))));
  in_range = subst (All (λ t. t < length c.args.graph.now.terms)) (sym c.in_ok-push.ensures.items)
      (All-push (λ t. t < length c.args.graph.now.terms) c.loop-node.terms.items c.term_of.result c.loop-node.invariant.in_range
      (slice_get_within c.args.graph.now.terms c.term_of.result (Blank (get_or c.args.walk.now c.loop-node.node-index 0)) c.term_of.ensures));
}
