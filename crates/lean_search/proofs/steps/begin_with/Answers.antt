use Rattle.std.proofs.Common.{◌≡◌, ◌++◌, length, take, drop, map, get_or, arith, refl, sym, ◌∙◌, subst}
use Rattle.std.proofs.lemmas.Grind.{common_steps}
use Rattle.map_search.specs.Pattern.{map_of}
use Rattle.lean_search.specs.Steps.{put_all}
use Rattle.lean_search.proofs.Composing.{put_all-map_of}
use Rattle.lean_search.proofs.steps.begin_with.Goals as goal

pub returns-clause-each : goal.returns-clause-each
returns-clause-each c k l =
    let whole : take c.args.to.now.len (c.write_all.new.to ++ drop (length c.write_all.new.to) c.args.to.now.items) ≡ c.write_all.new.to = grind (arith, common_steps) in
    let e : c.write_all.new.to ≡ put_all c.args.to.now.items c.args.step.now.terms.items (map (λ x. get_or c.args.to.now.items x 0) c.args.step.now.images.items) = grind (arith, common_steps) in
    subst (λ xs. get_or xs k 0 ≡ get_or c.args.to.now.items (map_of c.args.step.now.terms.items c.args.step.now.images.items k) 0) (sym (whole ∙ e))
    (put_all-map_of c.args.to.now.items c.args.to.now.items c.args.step.now.terms.items c.args.step.now.images.items c.requires.once c.requires.count c.requires.in_range k (λ _. refl))
