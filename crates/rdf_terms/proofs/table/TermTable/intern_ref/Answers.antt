use Rattle.std.proofs.Common.{sym, refl, inl, ◌∙◌}
use Rattle.rdf_terms.proofs.SameTerm.{terms_tell}
use Rattle.rdf_terms.specs.contracts.term.TermPartialEq.TheImpl.{eq-value}
use Rattle.rdf_terms.proofs.Membership.{place_is, present}
use Rattle.rdf_terms.proofs.HashedTerms.{found, listed}
use Rattle.rdf_terms.specs.References.{term_of}
use Rattle.rdf_terms.proofs.table.TermTable.intern_ref.Goals as goal

pub returns-in-Some-clause-ok : goal.returns-in-Some-clause-ok
returns-in-Some-clause-ok c =
    let t = term_of c.args.term in
    let at = sym (found c.self.inside.keys c.self.inside.terms.keys c.self.invariant.2 t) ∙ sym (rw c.new.ensures at c.in-Some.ensures.index) in
    let there = sym (listed c.self.inside.keys c.self.inside.terms.keys c.self.invariant.2 t) ∙ sym (rw c.new.ensures at c.in-Some.ensures.found) in
    record {
      at = rw (← c.self.view_is) (place_is eq-value.it terms_tell t _ c.in-Some.index at);
      adds = inl (refl, rw (← c.self.view_is) (present eq-value.it terms_tell t _ there));
    }
