-- What was told stays told as labels come behind those that are there.
use Rattle.std.proofs.Common.{◌≡◌, ℕ, zero, suc, ◌<◌, ◌≤◌, List, [], ◌∷◌, ◌++◌, Option, Some, None, IfSome, slice_get, length, inl, inr, refl, sym, ap, subst, ◌∙◌, arith, length-append, append_assoc, append-nil}
use Rattle.std.specs.List.{AllZip}
use Rattle.rdf_terms.proofs.Common.{Statement, IsIri, IsValidTerm, Adds, AddsAll, Extends, Extends-adds}
use Rattle.rdf_terms.specs.declared.term.Term.{Term}
use Rattle.rdf_terms.specs.declared.term.Term.TheVariants.{Iri as IriTerm, Blank, Literal as LiteralTerm}
use Rattle.rdf_terms.specs.declared.term.Label.{Label}
use Rattle.rdf_terms.proofs.AddingAll.{AddsAll-push}
use Rattle.trig_terms.specs.Meaning.{Said, StatedQuad, Told, Place, mention}
use Rattle.trig_terms.specs.Meaning.Said.{Iri, Node, Literal}
use Rattle.trig_terms.specs.Meaning.Place.{AtSubject, AtVerb, AtObject, InItems, AtItem, AtPrefixName, AtPrefixIri, AtBaseIri}
use Rattle.trig_builder.specs.declared.TheConstants.{MAX_QUADS}
use Rattle.trig_builder.specs.declared.place.Place.{Place as HeldPlace}
use Rattle.trig_builder.specs.declared.place.Place.TheVariants.{AtSubject as Subject, AtVerb as Verb, AtObject as Object, InItems as Items, AtItem as Item, AtPrefixName as PrefixName, AtPrefixIri as PrefixIri, AtBaseIri as BaseIri}
use Rattle.trig_builder.specs.Numbered.{IsTermOf, IsGraphNameOf, IsStatementOf, IsName, Says}
use Rattle.trig_builder.specs.Telling.{View, IsSoundPlace, IsSound, IsCell, IsPlace, IsDrafted, Tells}

-- ---- what labels stand for

label_front : (xs ys : List Label) (n : ℕ) (x : Label) → slice_get xs n ≡ Some x → slice_get (xs ++ ys) n ≡ Some x
label_front [] ys zero x h = cc
label_front [] ys (suc n) x h = cc
label_front (z ∷ zs) ys zero x h = h
label_front (z ∷ zs) ys (suc n) x h = label_front zs ys n x h

pub term_grows : (old new : List Label) (said : Said) (term : Term) → Extends old new → IsTermOf old said term → IsTermOf new said term
term_grows old new (Iri text) term e h = h
term_grows old new (Node label) term e h = (h.0, subst (λ ls. slice_get ls h.0 ≡ Some label) (sym e.1) (label_front old e.0 h.0 label h.1), h.2)
term_grows old new (Literal l) term e h = h

graph_name_grows : (old new : List Label) (said : Option Said) (name : Option Term) → Extends old new → IsGraphNameOf old said name → IsGraphNameOf new said name
graph_name_grows old new None name e h = h
graph_name_grows old new (Some said) name e h = (h.0, term_grows old new said h.0 e h.1, h.2)

statement_grows : (old new : List Label) (quad : StatedQuad) (st : Statement) → Extends old new → IsStatementOf old quad st → IsStatementOf new quad st
statement_grows old new quad st e h = record {
  subject = term_grows old new quad.subject st.subject e h.subject;
  predicate = term_grows old new quad.predicate st.predicate e h.predicate;
  object = term_grows old new quad.object st.object e h.object;
  graph_name = graph_name_grows old new quad.graph_name st.graph_name e h.graph_name;
}

cell_grows : (old new : List Label) (last : Option ℕ) (cell : Option Said) → Extends old new → IsCell old last cell → IsCell new last cell
cell_grows old new None None e h = h
cell_grows old new (Some n) (Some said) e h = term_grows old new said (Blank n) e h
cell_grows old new _ _ e h = absurd h

pub place_grows : (old new : List Label) (p : HeldPlace) (q : Place) → Extends old new → IsPlace old p q → IsPlace new p q
place_grows old new (Verb s) (AtVerb subject) e h = term_grows old new subject s e h
place_grows old new (Object s v) (AtObject subject verb) e h = (term_grows old new subject s e h.0, term_grows old new verb v e h.1)
place_grows old new (Items n) (InItems cell) e h = cell_grows old new n cell e h
place_grows old new (Item n) (AtItem cell) e h = term_grows old new cell (Blank n) e h
place_grows old new Subject AtSubject e h = tt
place_grows old new PrefixName AtPrefixName e h = tt
place_grows old new PrefixIri AtPrefixIri e h = tt
place_grows old new BaseIri AtBaseIri e h = tt
place_grows old new _ _ e h = absurd h

-- ---- lists in step

zip_map : {A B : Type 0} (R S : A → B → Type 0) (xs : List A) (ys : List B) → ((x : A) (y : B) → R x y → S x y) → AllZip R xs ys → AllZip S xs ys
zip_map R S [] [] f h = h
zip_map R S [] (y ∷ ys) f h = h
zip_map R S (x ∷ xs) [] f h = h
zip_map R S (x ∷ xs) (y ∷ ys) f h = (f x y h.0, zip_map R S xs ys f h.1)

zip_push : {A B : Type 0} (R : A → B → Type 0) (xs : List A) (ys : List B) (x : A) (y : B) → AllZip R xs ys → R x y → AllZip R (xs ++ x ∷ []) (ys ++ y ∷ [])
zip_push R [] [] x y h r = (r, tt)
zip_push R [] (z ∷ ys) x y h r = absurd h
zip_push R (z ∷ xs) [] x y h r = absurd h
zip_push R (z ∷ xs) (w ∷ ys) x y h r = (h.0, zip_push R xs ys x y h.1 r)

drafted_grows : (old new : List Label) (quads : List StatedQuad) (drafted : List Statement) → Extends old new → IsDrafted old quads drafted → IsDrafted new quads drafted
drafted_grows old new quads drafted e h = record {
  front = h.front;
  passed_over = h.passed_over;
  numbers = zip_map (IsStatementOf old) (IsStatementOf new) quads (h.front ++ h.passed_over) (λ q st r. statement_grows old new q st e r) h.numbers;
  adds = h.adds;
  all_or_full = h.all_or_full;
}

-- ---- what holds at each time, with more blank nodes

name_grows : (m n : ℕ) (t : Term) → m ≤ n → IsName m t → IsName n t
name_grows m n (IriTerm text) le h = h
name_grows m n (Blank k) le h = (tt, omega (arith, le, h.1))
name_grows m n (LiteralTerm l) le h = absurd h.0

verb_grows : (m n : ℕ) (t : Term) → IsIri t → IsValidTerm m t → IsValidTerm n t
verb_grows m n (IriTerm text) iri h = h
verb_grows m n (Blank k) iri h = absurd iri
verb_grows m n (LiteralTerm l) iri h = absurd iri

maybe_name_grows : (m n : ℕ) (t : Option Term) → m ≤ n → IfSome t (IsName m) → IfSome t (IsName n)
maybe_name_grows m n None le h = tt
maybe_name_grows m n (Some t) le h = name_grows m n t le h

maybe_below : (m n : ℕ) (last : Option ℕ) → m ≤ n → IfSome last (λ k. k < m) → IfSome last (λ k. k < n)
maybe_below m n None le h = tt
maybe_below m n (Some k) le h = omega (arith, le, h)

sound_place_grows : (m n : ℕ) (p : HeldPlace) → m ≤ n → IsSoundPlace m p → IsSoundPlace n p
sound_place_grows m n (Verb s) le h = name_grows m n s le h
sound_place_grows m n (Object s v) le h = (name_grows m n s le h.0, (h.1.0, verb_grows m n v h.1.0 h.1.1))
sound_place_grows m n (Items last) le h = maybe_below m n last le h
sound_place_grows m n (Item k) le h = omega (arith, le, h)
sound_place_grows m n Subject le h = tt
sound_place_grows m n PrefixName le h = tt
sound_place_grows m n PrefixIri le h = tt
sound_place_grows m n BaseIri le h = tt

pub more_labels : (old new : List Label) → Extends old new → length old ≤ length new
more_labels old new e = subst (λ ls. length old ≤ length ls) (sym e.1) (omega (arith, length-append old e.0))

-- ---- a blank node is mentioned

pub sound_mention : (v : View) (labels : List Label) (said : List Statement) (opened : ℕ) → Extends v.labels labels → IsSound v → IsSound (record v { labels = labels; said = said; opened = opened })
sound_mention v labels said opened e h =
    let le = more_labels v.labels labels e in
    record {
      graph_name = maybe_name_grows (length v.labels) (length labels) v.graph_name le h.graph_name;
      place = sound_place_grows (length v.labels) (length labels) v.place le h.place;
      outer = λ p there. sound_place_grows (length v.labels) (length labels) p le (h.outer p there);
    }

pub tells_mention : (v : View) (t : Told) (label : Label) (labels : List Label) → Adds v.labels label labels → Tells v t → Tells (record v { labels = labels }) (mention label t)
tells_mention v t label labels adds h =
    let e = Extends-adds v.labels label labels adds in
    record {
      place = place_grows v.labels labels v.place t.place e h.place;
      outer = zip_map (IsPlace v.labels) (IsPlace labels) v.outer t.outer (λ p q r. place_grows v.labels labels p q e r) h.outer;
      graph_name = graph_name_grows v.labels labels t.graph_name v.graph_name e h.graph_name;
      opened = h.opened;
      labels = AddsAll-push [] t.mentioned v.labels label labels h.labels adds;
      drafted = drafted_grows v.labels labels t.quads v.said e h.drafted;
    }

-- ---- a quad is said

pub drafted_said : (labels : List Label) (quads : List StatedQuad) (quad : StatedQuad) (drafted new : List Statement) (st : Statement) → IsDrafted labels quads drafted → IsStatementOf labels quad st
    → Says drafted st new
    → IsDrafted labels (quads ++ quad ∷ []) new
drafted_said labels quads quad drafted new st h is (inl (few, adds)) =
    let all : h.passed_over ≡ [] = elim h.all_or_full [ inl e ↦ e | inr full ↦ absurd (omega (arith, few, full)) ] in
    record {
      front = h.front ++ st ∷ [];
      passed_over = [];
      numbers = subst (AllZip (IsStatementOf labels) (quads ++ quad ∷ [])) (sym (append-nil (h.front ++ st ∷ [])))
          (zip_push (IsStatementOf labels) quads h.front quad st (subst (AllZip (IsStatementOf labels) quads) (ap (λ more. h.front ++ more) all ∙ append-nil h.front) h.numbers) is);
      adds = AddsAll-push [] h.front drafted st new h.adds adds;
      all_or_full = inl refl;
    }
drafted_said labels quads quad drafted new st h is (inr (full, same)) = record {
  front = h.front;
  passed_over = h.passed_over ++ st ∷ [];
  numbers =
      subst (AllZip (IsStatementOf labels) (quads ++ quad ∷ [])) (append_assoc h.front h.passed_over (st ∷ [])) (zip_push (IsStatementOf labels) quads (h.front ++ h.passed_over) quad st h.numbers is);
  adds = subst (AddsAll [] h.front) (sym same) h.adds;
  all_or_full = inr (subst (λ sts. MAX_QUADS < length sts) (sym same) full);
}
