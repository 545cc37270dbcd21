use Rattle.std.proofs.Common.{sym, ap, ◌∙◌, subst, get_or, true≢false}
use Rattle.rdf_terms.proofs.Common.{In, statement}
use Rattle.entail.specs.Numbers.{quad_by}
use Rattle.entail.proofs.Grounding.{is_ground, quad_there}
use Rattle.entail.proofs.ground.is_kept.Goals as goal

pub returns-else-has_node : goal.returns-else-has_node
returns-else-has_node c =
    let ground = is_ground (statement c.args.crossing.now.entailed.now.terms c.args.triple) (λ none. true≢false (sym (c.has_node.ensures.1 none) ∙ c.if-has_node.false)) in
    let is = c.crossed.ensures ∙ ap (λ xs. quad_by (λ k. get_or xs k 0) c.args.triple) c.as_slice.ensures.value in
    let there = quad_there c.args.crossing.now.entailed.now c.args.crossing.now.graph.now c.args.crossing.now.numbers.items c.requires.crossed.entailed c.requires.crossed.graph
    c.requires.crossed.numbers
    c.args.triple c.requires.there in (
      λ t h. there.0 (subst (λ q. In q c.args.crossing.now.graph.now.quads) is (c.has.ensures.quad.0 t)),
      λ h. c.has.ensures.quad.1 (subst (λ q. In q c.args.crossing.now.graph.now.quads) (sym is) (there.1 (h ground))),
    )
