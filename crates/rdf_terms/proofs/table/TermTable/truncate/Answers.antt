use Rattle.std.proofs.Common.{arith, take, length-take, sym, ◌∙◌, ap}
use Rattle.std.proofs.lemmas.List.{take-map}
use Rattle.rdf_terms.specs.declared.hashed_term.HashedTerm.{HashedTerm}
use Rattle.rdf_terms.specs.HashedTerm.{terms_of}
use Rattle.rdf_terms.proofs.Membership.{AreDistinct-take}
use Rattle.rdf_terms.proofs.HashedTerms.{AreHashed-take}
use Rattle.rdf_terms.proofs.table.TermTable.truncate.Goals as goal

pub invariant_of-self : goal.invariant_of-self
invariant_of-self c =
    let hs = c.self.inside.terms.keys in
    let front = take-map (λ (h : HashedTerm). h.term) c.args.len hs in
    rw c.truncate.ensures.keys (
      rw (← front) (omega (arith, c.self.invariant.0, length-take c.args.len (terms_of hs))),
      rw (← front) (AreDistinct-take c.args.len (terms_of hs) c.self.invariant.1),
      AreHashed-take c.self.inside.keys hs c.self.invariant.2 c.args.len,
    )

pub returns : goal.returns
returns c = ap terms_of c.truncate.ensures.keys ∙ sym (take-map (λ (h : HashedTerm). h.term) c.args.len c.self.inside.terms.keys) ∙ ap (take c.args.len) c.self.view_is
