use Rattle.std.proofs.Common.{◌∙◌, [], subst}
use Rattle.std.proofs.lemmas.Result.{on_ok_weaker}
use Rattle.rdf_terms.specs.Lists.{Text}
use Rattle.trig_terms.specs.Meaning.{meet_iri, behind_prefix, looked_up}
use Rattle.trig_terms.specs.Meaning.Undefined.{NoPrefix}
use Rattle.trig_builder.specs.Building.{Builds}
use Rattle.trig_builder.proofs.Meanings.{met_as_name, behind_nothing}
use Rattle.trig_builder.proofs.builder.Builder.meet_namespace.Goals as goal

pub returns-in_default : goal.returns-in_default
returns-in_default c = record {
  ready = c.meet_name.ensures.ready;
  builds = on_ok_weaker c.meet_name.result
      (λ f s h. subst (Builds c.meet_name.new.self) (met_as_name c.args.self.now.telling.draft.labels c.args.self.now.telling.place s.told.place h.told.place
      (λ e. c.in_default.not-AtPrefixName (c.place.ensures ∙ e)) c.args.prefix s)
      (subst (λ iri. Builds c.meet_name.new.self (meet_iri iri NoPrefix s)) (behind_nothing (looked_up s.prefixes c.args.prefix))
      (subst (λ (t : Text). Builds c.meet_name.new.self (meet_iri (behind_prefix (looked_up s.prefixes t) []) NoPrefix s)) c.as_str.ensures (f s h))))
      c.meet_name.ensures.builds;
}
