use Rattle.std.proofs.Common.{sym, refl, inl}
use Rattle.rdf_terms.specs.contracts.term.LabelPartialEq.TheImpl.{eq-value}
use Rattle.rdf_terms.specs.References.{label_of}
use Rattle.rdf_terms.proofs.Membership.{place_is, present}
use Rattle.rdf_terms.proofs.SameTerm.{labels_tell}
use Rattle.rdf_terms.proofs.draft.Draft.node_ref.Goals as goal

pub returns-in-Some-clause-ok : goal.returns-in-Some-clause-ok
returns-in-Some-clause-ok c = record {
  at = rw (← c.self.view_is) (place_is eq-value.it labels_tell (label_of c.args.label) _ c.in-Some.index (sym c.in-Some.ensures.index));
  adds = inl (refl, rw (← c.self.view_is) (present eq-value.it labels_tell (label_of c.args.label) c.self.inside.labels.keys (sym c.in-Some.ensures.found)));
}
