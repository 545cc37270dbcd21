use Rattle.std.proofs.Common.{sym, ap, subst, ◌∙◌, ◌++◌, ◌∷◌, [], arith}
use Rattle.std.proofs.lemmas.List.{map_more}
use Rattle.rdf_terms.specs.References.{statement_of}
use Rattle.rdf_terms.specs.Document.{NumbersAll}
use Rattle.rdf_terms.specs.declared.ends.KnownEnds.{KnownEnds}
use Rattle.rdf_terms.proofs.Growing.{extends-trans}
use Rattle.rdf_terms.proofs.AddingAll.{NumbersAll-push}
use Rattle.rdf_terms.proofs.KnownEnds.{known_at, known_there}
use Rattle.rdf_terms.proofs.numbering.number_all.Goals as goal

pub number_terms-requires-clause-subject : goal.number_terms-requires-clause-subject
number_terms-requires-clause-subject c =
    let known = known_at c.args.terms.now c.args.quads.now c.in_ok-known.known.items c.loop-place.place _ _ c.in_ok-known.ensures.known c.loop-place-test.true in
    known_there c.args.terms.now _ _ _ (ap (λ (k : KnownEnds). k.subject) (c.index.ensures ∙ known)) c.loop-place.invariant.extends

pub number_terms-requires-clause-object : goal.number_terms-requires-clause-object
number_terms-requires-clause-object c =
    let known = known_at c.args.terms.now c.args.quads.now c.in_ok-known.known.items c.loop-place.place _ _ c.in_ok-known.ensures.known c.loop-place-test.true in
    known_there c.args.terms.now _ _ _ (ap (λ (k : KnownEnds). k.object) (c.index.ensures ∙ known)) c.loop-place.invariant.extends

pub loop-place-preserved : goal.loop-place-preserved
loop-place-preserved c = record {
  numbers = rw c.in_ok-push.ensures.items (
      subst (λ sts. NumbersAll c.args.terms.now sts (c.loop-place.numbered.items ++ c.in_ok-number_terms.field-0 ∷ []) c.number_terms.new.terms)
      (sym (map_more statement_of c.args.quads.now c.loop-place.place _ c.loop-place-test.true))
      (NumbersAll-push _ _ _ _ _ _ _ c.loop-place.invariant.numbers c.in_ok-number_terms.ensures.numbers c.in_ok-number_terms.ensures.extends c.in_ok-number_terms.ensures.distinct)
      );
  extends = extends-trans _ _ _ c.loop-place.invariant.extends c.in_ok-number_terms.ensures.extends;
  bound = omega (arith, c.loop-place.invariant.bound, c.in_ok-number_terms.ensures.numbers.bound);
}
