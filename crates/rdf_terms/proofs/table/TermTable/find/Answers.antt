use Rattle.std.proofs.Common.{sym, subst, true≢false, refl, ◌∙◌}
use Rattle.rdf_terms.specs.Lists.{In}
use Rattle.rdf_terms.specs.References.{term_of}
use Rattle.rdf_terms.specs.HashedTerm.{terms_of}
use Rattle.rdf_terms.proofs.Membership.{place_is, absent, present}
use Rattle.rdf_terms.proofs.SameTerm.{terms_tell}
use Rattle.rdf_terms.proofs.HashedTerms.{found, listed}
use Rattle.rdf_terms.specs.contracts.term.TermPartialEq.TheImpl.{eq-value}
use Rattle.rdf_terms.proofs.table.TermTable.find.Goals as goal

pub returns-clause-found : goal.returns-clause-found
returns-clause-found c =
    let at = sym (found c.self.inside.keys c.self.inside.terms.keys c.self.invariant.2 c.args.term.now) ∙ sym (rw (c.new.ensures, c.as_ref.ensures) at c.in_ok-index.ensures.index) in
    rw (← c.self.view_is) (place_is eq-value.it terms_tell c.args.term.now _ c.in_ok-index.index at)

pub returns-clause-none : goal.returns-clause-none
returns-clause-none c =
    let is = sym (listed c.self.inside.keys c.self.inside.terms.keys c.self.invariant.2 (term_of c.as_ref.result)) ∙ sym (rw c.new.ensures at c.in_ok-index.ensures.found) in
    let there = present eq-value.it terms_tell (term_of c.as_ref.result) (terms_of c.self.inside.terms.keys) is in
    (λ e. absurd (true≢false e), λ h. absurd (h (rw (← c.self.view_is) (subst (λ t. In t (terms_of c.self.inside.terms.keys)) c.as_ref.ensures there))))

pub returns-in_err-index-clause-none : goal.returns-in_err-index-clause-none
returns-in_err-index-clause-none c =
    let is = sym (listed c.self.inside.keys c.self.inside.terms.keys c.self.invariant.2 (term_of c.as_ref.result)) ∙ sym (rw c.new.ensures at c.in_err-index.ensures.found) in
    let gone = absent eq-value.it terms_tell (term_of c.as_ref.result) (terms_of c.self.inside.terms.keys) is in
    rw (c.from_residual.ensures, ← c.self.view_is) (λ _. subst (λ t. ¬ (In t (terms_of c.self.inside.terms.keys))) c.as_ref.ensures gone, λ _. refl)
