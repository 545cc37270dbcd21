use Rattle.std.proofs.Common.{◌∙◌, sym, subst}
use Rattle.std.proofs.lemmas.Bool.{false≢true}
use Rattle.std.proofs.lemmas.Result.{on_ok_weaker}
use Rattle.trig_terms.specs.Meaning.{meet_iri}
use Rattle.trig_terms.specs.Meaning.Undefined.{NoBase}
use Rattle.trig_builder.specs.Building.{Builds}
use Rattle.trig_builder.proofs.Meanings.{absolute_is, relative_is}
use Rattle.trig_builder.proofs.builder.Builder.meet_reference.Goals as goal

pub returns-then-has_scheme-clause-builds : goal.returns-then-has_scheme-clause-builds
returns-then-has_scheme-clause-builds c =
    on_ok_weaker c.meet_absolute.result
    (λ f s h. subst (λ iri. Builds c.meet_absolute.new.self (meet_iri iri NoBase s)) (absolute_is s.base c.args.reference.now (c.has_scheme.ensures.0 c.if-has_scheme.true)) (f s h))
    c.meet_absolute.ensures.builds

pub returns-else-has_scheme-clause-builds : goal.returns-else-has_scheme-clause-builds
returns-else-has_scheme-clause-builds c =
    on_ok_weaker c.meet_relative.result
    (λ f s h. subst (λ iri. Builds c.meet_relative.new.self (meet_iri iri NoBase s))
    (relative_is s.base c.args.reference.now (λ scheme. false≢true (sym c.if-has_scheme.false ∙ c.has_scheme.ensures.1 scheme))) (f s h))
    c.meet_relative.ensures.builds
