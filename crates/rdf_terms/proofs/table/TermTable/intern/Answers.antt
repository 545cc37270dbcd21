use Rattle.std.proofs.Common.{◌≡◌, ◌<◌, ◌+◌, Bool, true, false, ℕ, sym, ap, ◌∙◌, arith, length, Some, if◌then◌else◌}
use Rattle.std.proofs.lemmas.List.{length-map}
use Rattle.rdf_terms.specs.declared.hashed_term.HashedTerm.{HashedTerm}
use Rattle.rdf_terms.proofs.Membership.{AreDistinct-adds}
use Rattle.rdf_terms.proofs.HashedTerms.{interned_adds, interned_hashed, at_number, stored_is}
use Rattle.rdf_terms.proofs.table.TermTable.intern.Goals as goal

one_more : (b : Bool) (m n : ℕ) → n ≡ m + (if b then 1 else 0) → m < 4294967295 → n < 4294967296
one_more true m n e l = omega arith
one_more false m n e l = omega arith

pub invariant_of-self-2 : goal.invariant_of-self-2
invariant_of-self-2 c =
    let old = c.self.inside.terms.keys in
    let new = c.insert_full.new.self.keys in
    let few : length old < 4294967295 = omega (arith, length-map old (λ (h : HashedTerm). h.term), ap length c.self.view_is, c.requires) in
    let len = one_more _ (length old) (length new) c.in_ok-index.ensures.len few in
    let ins = rw c.new.ensures at c.in_ok-index.ensures.keys in (
      omega (arith, len, length-map new (λ (h : HashedTerm). h.term)),
      AreDistinct-adds _ _ _ (interned_adds c.self.inside.keys old c.self.invariant.2 c.args.term new ins) c.self.invariant.1,
      interned_hashed c.self.inside.keys old c.self.invariant.2 c.args.term new ins,
    )

pub returns-clause-ok : goal.returns-clause-ok
returns-clause-ok c =
    let s = c.in_ok-index.ensures.stored in
    record {
      at = at_number c.insert_full.new.self.keys c.in_ok-index.index s.0 s.1 ∙ ap Some (sym (stored_is c.self.inside.keys c.args.term s.0 (rw c.new.ensures at s.2)));
      adds = rw (← c.self.view_is) (interned_adds c.self.inside.keys c.self.inside.terms.keys c.self.invariant.2 c.args.term _ (rw c.new.ensures at c.in_ok-index.ensures.keys));
    }

pub returns-clause-distinct : goal.returns-clause-distinct
returns-clause-distinct c =
    AreDistinct-adds _ _ _ (interned_adds c.self.inside.keys c.self.inside.terms.keys c.self.invariant.2 c.args.term _ (rw c.new.ensures at c.in_ok-index.ensures.keys)) c.self.invariant.1
