use Rattle.std.proofs.Common.{◌<◌, ◌≤◌, ◌++◌, ◌∷◌, [], map, length, sym, ap, ◌∙◌, arith}
use Rattle.std.proofs.lemmas.List.{map_more, take_all}
use Rattle.rdf_terms.specs.declared.term.Term.TheVariants.{Blank}
use Rattle.dataset_index.specs.HeldNodes.{held_for}
use Rattle.dataset_index.proofs.term_nodes.numbers_held.Goals as goal

pub loop-number-preserved : goal.loop-number-preserved
loop-number-preserved c =
    let within : c.loop-number.number < length c.args.terms.now = omega (arith, c.loop-number-test.true, c.len-count.ensures.len) in
    c.in_ok-push.ensures.items ∙ (λ i. c.loop-number.invariant i ++ c.held_at.ensures i ∷ []) ∙ sym (map_more held_for c.args.terms.now c.loop-number.number (Blank 0) within)

pub returns : goal.returns
returns c =
    let all : length c.args.terms.now ≤ c.loop-number.number = omega (arith, c.len-count.ensures.len) in
    c.loop-number.invariant ∙ ap (map held_for) (take_all c.loop-number.number c.args.terms.now all)
