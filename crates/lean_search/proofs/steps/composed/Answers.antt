use Rattle.std.proofs.Common.{◌≡◌, ◌<◌, ◌-◌, length, get_or, rules, arith, subst, sym, ◌∙◌}
use Rattle.std.proofs.lemmas.List.Elements.{All-get_or}
use Rattle.lean_search.specs.Steps.{IsStep}
use Rattle.lean_search.proofs.Composing.{one_before}
use Rattle.lean_search.proofs.steps.composed.Goals as goal

pub loop-at-preserved : goal.loop-at-preserved
loop-at-preserved c =
    let some : 0 < c.loop-at.at = search rules in
    let is : c.index-steps-at.result ≡ get_or c.args.steps.now (c.loop-at.at - 1) c.index-steps-at.result = search rules in
    let step : IsStep c.args.terms c.index-steps-at.result = subst (IsStep c.args.terms) (sym is)
    (All-get_or (IsStep c.args.terms) c.args.steps.now (c.loop-at.at - 1) c.index-steps-at.result (let w = c.loop-at.invariant.within in omega arith) c.requires) in
    let n : length c.loop-at.to.items ≡ c.args.terms = c.loop-at.invariant.count in
    let m : length c.begin_with.new.to.items ≡ length c.loop-at.to.items = c.in_ok-begin_with.ensures.length in
    record {
      within = (let w = c.loop-at.invariant.within in omega arith);
      count = m ∙ n;
      each =
          one_before c.args.steps.now c.loop-at.at c.index-steps-at.result c.loop-at.to.items c.begin_with.new.to.items c.args.terms some c.loop-at.invariant.within is step.images_in_range
          c.loop-at.invariant.each (λ k l. c.in_ok-begin_with.ensures.each k (subst (λ x. k < x) (sym n) l));
    }
