use Rattle.std.proofs.Common.{ap, sym, ◌∙◌, Some}
use Rattle.rdf_terms.specs.contracts.term.LabelPartialEq.TheImpl.{eq-value}
use Rattle.rdf_terms.proofs.Membership.{inserted}
use Rattle.rdf_terms.proofs.SameTerm.{labels_tell}
use Rattle.rdf_terms.proofs.Naming.{IsDraft-label}
use Rattle.rdf_terms.proofs.draft.Draft.node.Goals as goal

pub invariant_of-self-2 : goal.invariant_of-self-2
invariant_of-self-2 c =
    IsDraft-label _ _ c.self.inside.labels.keys c.insert_full.new.self.keys c.args.label (rw (← c.self.view_is) at c.requires) c.self.invariant
    (inserted eq-value.it labels_tell _ _ c.args.label c.in_ok-index.ensures.keys)

pub returns-clause-ok : goal.returns-clause-ok
returns-clause-ok c =
    let s = c.in_ok-index.ensures.stored in
    record {
      at = s.1 ∙ ap Some (sym (labels_tell.same _ _ s.2));
      adds = rw (← c.self.view_is) (inserted eq-value.it labels_tell _ _ c.args.label c.in_ok-index.ensures.keys);
    }
