use Rattle.std.proofs.Common.{◌∙◌, sym, subst}
use Rattle.std.proofs.lemmas.Result.{on_ok_weaker}
use Rattle.trig_terms.specs.Meaning.{step}
use Rattle.trig_builder.specs.Building.{Builds}
use Rattle.trig_builder.proofs.Meanings.{is_undefined, is_defined}
use Rattle.trig_builder.proofs.builder.Builder.step.Goals as goal

pub returns-then-is_some-clause-builds : goal.returns-then-is_some-clause-builds
unfolding step
returns-then-is_some-clause-builds c s h =
    subst (Builds c.args.self.now) (is_undefined c.args.self.now.missing (sym c.is_some.ensures ∙ c.if-is_some.true) s.undefined h.undefined c.args.leaf s) h

pub returns-clause-builds : goal.returns-clause-builds
unfolding step
returns-clause-builds c =
    on_ok_weaker c.meet_defined.result
    (λ f s h. subst (Builds c.meet_defined.new.self) (is_defined c.args.self.now.missing (sym c.is_some.ensures ∙ c.if-is_some.false) s.undefined h.undefined c.args.leaf s) (f s h))
    c.meet_defined.ensures.builds
