use Rattle.std.proofs.Common.{◌<◌, length, get_or, sym, ap, ◌∙◌, subst}
use Rattle.lean_search.specs.Steps.{AreSteps, IsMapBy, IsNodeMapped}
use Rattle.lean_search.proofs.Ending.{map_by_form}
use Rattle.lean_search.proofs.search.form_of.Goals as goal

pub composed-requires : goal.composed-requires
composed-requires c = subst (λ n. AreSteps n c.args.steps.now) (sym (c.len.ensures.len ∙ ap length c.terms.ensures.terms)) c.requires

pub nodes_mapped-requires : goal.nodes_mapped-requires
nodes_mapped-requires c = ap length c.as_slice.ensures.value ∙ (c.in_ok-to.ensures.length ∙ (c.len.ensures.len ∙ ap length c.terms.ensures.terms))

pub returns-clause-map : goal.returns-clause-map
returns-clause-map c =
    let terms = c.len.ensures.len ∙ ap length c.terms.ensures.terms in
    subst (IsMapBy c.args.graph.now c.args.steps.now) (sym c.new.ensures)
    (map_by_form c.args.graph.now c.args.steps.now c.in_ok-to.to.items c.in_ok-map.map.items c.in_ok-map.ensures.length (λ k l. c.in_ok-to.ensures.each k (subst (λ n. k < n) (sym terms) l))
    (λ n l. subst (λ xs. IsNodeMapped c.args.graph.now xs n (get_or c.in_ok-map.map.items n 0)) c.as_slice.ensures.value (c.in_ok-map.ensures.each n l)))
