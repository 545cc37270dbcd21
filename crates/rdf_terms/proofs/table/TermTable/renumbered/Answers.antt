use Rattle.std.proofs.Common.{map, length, sym, ap, subst, ◌∙◌, inl, inr, refl, arith}
use Rattle.std.proofs.lemmas.List.{length-map}
use Rattle.rdf_terms.specs.Lists.{In}
use Rattle.rdf_terms.specs.Isomorphism.{relabel_term}
use Rattle.rdf_terms.specs.Document.{number_in}
use Rattle.rdf_terms.specs.HashedTerm.{terms_of}
use Rattle.rdf_terms.proofs.Moving.{moved, front_shorter, moved_all}
use Rattle.rdf_terms.proofs.table.TermTable.renumbered.Goals as goal

pub loop-entry-init : goal.loop-entry-init
loop-entry-init c =
    let same = ap terms_of c.into_iter-entry-iterator.ensures.into_iter_gives.0 ∙ c.self.view_is in
    record { made = rw (c.new-fresh.ensures, same) refl; known = λ t h. subst (In t) same h }

pub renumbered_term-requires : goal.renumbered_term-requires
renumbered_term-requires c = λ n e. c.requires.known n (c.loop-entry.invariant.known _ (subst (In _) (sym (ap terms_of c.in-Some.ensures.steps)) (inl (sym e))))

pub intern-requires : goal.intern-requires
intern-requires c =
    let f = relabel_term (number_in c.args.numbers.now) in
    let shorter = front_shorter (map f c.args.self) c.loop-entry.fresh _ _ c.loop-entry.fresh (f c.in-Some.entry.term) c.loop-entry.invariant.made
    (ap (λ hs. map f (terms_of hs)) c.in-Some.ensures.steps) in
    omega (arith, shorter, length-map c.args.self f, ap length c.self.view_is, c.self.invariant.0)

pub loop-entry-preserved : goal.loop-entry-preserved
loop-entry-preserved c =
    let f = relabel_term (number_in c.args.numbers.now) in
    record {
      made = moved (map f c.args.self) c.loop-entry.fresh _ _ c.intern.new.self (f c.in-Some.entry.term) c.requires.distinct c.loop-entry.invariant.made
          (ap (λ hs. map f (terms_of hs)) c.in-Some.ensures.steps)
          (rw c.renumbered_term.ensures at c.in_ok-intern.ensures.ok.adds);
      known = λ t h. c.loop-entry.invariant.known t (subst (In t) (sym (ap terms_of c.in-Some.ensures.steps)) (inr h));
    }

pub returns : goal.returns
returns c =
    let f = relabel_term (number_in c.args.numbers.now) in
    moved_all _ _ _ c.loop-entry.invariant.made (ap (λ hs. map f (terms_of hs)) c.in-None.ensures.steps.0)
