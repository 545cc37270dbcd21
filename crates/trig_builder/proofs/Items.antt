-- What it does that blank nodes are mentioned and opened, and cells of collections.
use Rattle.std.proofs.Common.{◌≡◌, ℕ, ◌<◌, ◌+◌, List, [], ◌∷◌, ◌++◌, Option, Some, None, MatchOption, unwrap_or, option_to_list, inl, inr, length, reverse, slice_get, codes, refl, sym, ap, subst, ◌∙◌, arith}
use Rattle.std.specs.List.{AllZip}
use Rattle.std.proofs.lemmas.List.{reverse-append}
use Rattle.std.proofs.lemmas.Option.{slice_get_within}
use Rattle.rdf_terms.proofs.Common.{In, Statement, Adds, Extends, Interns, Extends-adds}
use Rattle.rdf_terms.specs.declared.term.Term.TheVariants.{Iri as IriTerm, Blank}
use Rattle.rdf_terms.specs.declared.term.Label.{Label}
use Rattle.rdf_terms.specs.declared.term.Label.TheVariants.{Anonymous}
use Rattle.trig_terms.specs.Meaning.{Said, Told, Place, say, rdf, rdf_rest, rdf_nil, next_cell, next_node, next_verb_in, open_node, mention, leave, leave_to}
use Rattle.trig_terms.specs.Meaning.Place.{AtSubject, AtVerb, AtObject, InItems, AtItem, AtPrefixName, AtPrefixIri, AtBaseIri}
use Rattle.trig_builder.specs.declared.place.Place.{Place as HeldPlace}
use Rattle.trig_builder.specs.declared.place.Place.TheVariants.{AtSubject as Subject, AtVerb as Verb, AtObject as Object, InItems as Items, AtItem as Item, AtPrefixName as PrefixName, AtPrefixIri as PrefixIri, AtBaseIri as BaseIri}
use Rattle.trig_builder.specs.Numbered.{IsTermOf, Says}
use Rattle.trig_builder.specs.Telling.{View, IsSound, IsSoundPlace, without_verb, IsPlace, IsDrafted, Tells}
use Rattle.trig_builder.proofs.Growth.{sound_mention, tells_mention}
use Rattle.trig_builder.proofs.Putting.{quad_told, sound_said}

-- ---- blank nodes

pub label_within : (old labels : List Label) (label : Label) (n : ℕ) → Interns old labels label n → n < length labels
label_within old labels label n i = slice_get_within labels n label i.at

pub label_grown : (old labels : List Label) (label : Label) (n : ℕ) → Interns old labels label n → Extends old labels
label_grown old labels label n i = Extends-adds old label labels i.adds

pub mention_sound : (v : View) (labels : List Label) (said : List Statement) (opened n : ℕ) (label : Label) → Interns v.labels labels label n → IsSound v
    → IsSound (record v { labels = labels; said = said; opened = opened })
mention_sound v labels said opened n label i h = sound_mention v labels said opened (label_grown v.labels labels label n i) h

pub mention_told : (v : View) (t : Told) (labels : List Label) (said : List Statement) (n : ℕ) (label : Label) → Interns v.labels labels label n → said ≡ v.said → Tells v t
    → Tells (record v { labels = labels; said = said }) (mention label t)
mention_told v t labels said n label i same h =
    let m = tells_mention v t label labels i.adds h in
    record {
      place = m.place;
      outer = m.outer;
      graph_name = m.graph_name;
      opened = m.opened;
      labels = m.labels;
      drafted = subst (IsDrafted labels t.quads) (sym same) m.drafted;
    }

pub open_told : (v : View) (t : Told) (labels : List Label) (said : List Statement) (opened n : ℕ) → Interns v.labels labels (Anonymous v.opened) n → said ≡ v.said → opened ≡ v.opened + 1 → Tells v t
    → Tells (record v { labels = labels; said = said; opened = opened }) (open_node t)
open_told v t labels said opened n i same o h =
    let m = tells_mention v t (Anonymous t.opened) labels (subst (λ (k : ℕ). Adds v.labels (Anonymous k) labels) h.opened i.adds) h in
    record {
      place = m.place;
      outer = m.outer;
      graph_name = m.graph_name;
      opened = omega (arith, o, h.opened);
      labels = m.labels;
      drafted = subst (IsDrafted labels t.quads) (sym same) m.drafted;
    }

pub node_is : (v : View) (t : Told) (labels : List Label) (n : ℕ) → Interns v.labels labels (Anonymous v.opened) n → Tells v t → IsTermOf labels (next_node t) (Blank n)
node_is v t labels n i h = (n, subst (λ (k : ℕ). slice_get labels n ≡ Some (Anonymous k)) h.opened i.at, refl)

-- ---- cells

abbrev rest_text : List ℕ
rest_text = rdf (codes "rest")

pub later_told : (v : View) (t : Told) (last cell : Said) (before node : ℕ) (labels : List Label) (new : List Statement) → labels ≡ v.labels → IsTermOf v.labels last (Blank before)
    → IsTermOf v.labels cell (Blank node) → Says v.said (record { subject = Blank before; predicate = IriTerm rest_text; object = Blank node; graph_name = v.graph_name }) new
    → Tells v t → Tells (record v { labels = labels; said = new; place = Item node }) (next_cell (Some last) cell t)
later_told v t last cell before node labels new same k is says h =
    let told = quad_told v t last rdf_rest cell (Blank before) (IriTerm rest_text) (Blank node) labels new same k refl is says h in
    record {
      place = subst (λ ls. IsTermOf ls cell (Blank node)) (sym same) is;
      outer = told.outer;
      graph_name = told.graph_name;
      opened = told.opened;
      labels = told.labels;
      drafted = told.drafted;
    }

pub later_sound : (v : View) (node : ℕ) (labels : List Label) (new : List Statement) → labels ≡ v.labels → node < length v.labels → IsSound v
    → IsSound (record v { labels = labels; said = new; place = Item node })
later_sound v node labels new same less h =
    let s = sound_said v labels new same h in
    record { graph_name = s.graph_name; place = subst (λ ls. node < length ls) (sym same) less; outer = s.outer }

at_no_items : (labels : List Label) (q : Place) → IsPlace labels (Items None) q → InItems None ≡ q
at_no_items labels (InItems None) h = refl
at_no_items labels (InItems (Some cell)) h = absurd h
at_no_items labels _ h = absurd h

pub no_items : (v : View) (t : Told) (last : Option ℕ) → v.place ≡ Items last → last ≡ None → Tells v t → InItems None ≡ t.place
no_items v t last here is h = at_no_items v.labels t.place (subst (λ p. IsPlace v.labels p t.place) (here ∙ ap Items is) h.place)

pub record IsBehindCell (v : View) (t : Told) (before : ℕ) : Type 0 where
  pub last : Said
  pub is : InItems (Some last) ≡ t.place
  pub term : IsTermOf v.labels last (Blank before)

record IsItems (labels : List Label) (before : ℕ) (q : Place) : Type 0 where
  last : Said
  is : InItems (Some last) ≡ q
  term : IsTermOf labels last (Blank before)

at_items : (labels : List Label) (before : ℕ) (q : Place) → IsPlace labels (Items (Some before)) q → IsItems labels before q
at_items labels before (InItems (Some last)) h = record { last = last; is = refl; term = h }
at_items labels before (InItems None) h = absurd h
at_items labels before _ h = absurd h

pub some_items : (v : View) (t : Told) (last : Option ℕ) (before : ℕ) → v.place ≡ Items last → last ≡ Some before → Tells v t → IsBehindCell v t before
some_items v t last before here is h =
    let at = at_items v.labels before t.place (subst (λ p. IsPlace v.labels p t.place) (here ∙ ap Items is) h.place) in
    record { last = at.last; is = at.is; term = at.term }

-- ---- the last cell

abbrev nil_text : List ℕ
nil_text = rdf (codes "nil")

pub last_told : (v : View) (t : Told) (last : Said) (cell : ℕ) (labels : List Label) (new : List Statement) → labels ≡ v.labels → IsTermOf v.labels last (Blank cell)
    → Says v.said (record { subject = Blank cell; predicate = IriTerm rest_text; object = IriTerm nil_text; graph_name = v.graph_name }) new → Tells v t
    → Tells (record v { labels = labels; said = new }) (say last rdf_rest rdf_nil t)
last_told v t last cell labels new same k says h = quad_told v t last rdf_rest rdf_nil (Blank cell) (IriTerm rest_text) (IriTerm nil_text) labels new same k refl refl says h

-- ---- graphs and verbs

-- the place without its verb, and all else as it is
with_place : (v : View) (t : Told) (was : Place) (p : HeldPlace) (q : Place) → IsPlace v.labels p q → Tells v (record t { place = was }) → Tells (record v { place = p }) (record t { place = q })
with_place v t was p q here h = record { place = here; outer = h.outer; graph_name = h.graph_name; opened = h.opened; labels = h.labels; drafted = h.drafted }

without_verb_told : (v : View) (t : Told) (p : HeldPlace) (q : Place) → IsPlace v.labels p q → Tells v (record t { place = q })
    → Tells (record v { place = without_verb p }) (next_verb_in q (record t { place = q }))
without_verb_told v t (Verb s) (AtVerb subject) here h = with_place v t (AtVerb subject) (Verb s) (AtVerb subject) here h
without_verb_told v t (Object s w) (AtObject subject verb) here h = with_place v t (AtObject subject verb) (Verb s) (AtVerb subject) here.0 h
without_verb_told v t (Items n) (InItems cell) here h = with_place v t (InItems cell) (Items n) (InItems cell) here h
without_verb_told v t (Item n) (AtItem cell) here h = with_place v t (AtItem cell) (Item n) (AtItem cell) here h
without_verb_told v t Subject AtSubject here h = with_place v t AtSubject Subject AtSubject here h
without_verb_told v t PrefixName AtPrefixName here h = with_place v t AtPrefixName PrefixName AtPrefixName here h
without_verb_told v t PrefixIri AtPrefixIri here h = with_place v t AtPrefixIri PrefixIri AtPrefixIri here h
without_verb_told v t BaseIri AtBaseIri here h = with_place v t AtBaseIri BaseIri AtBaseIri here h
without_verb_told v t _ _ here h = absurd here

pub next_verb_told : (v : View) (t : Told) (p : HeldPlace) → p ≡ without_verb v.place → Tells v t → Tells (record v { place = p }) (next_verb_in t.place t)
next_verb_told v t p is h = subst (λ r. Tells (record v { place = r }) (next_verb_in t.place t)) (sym is) (without_verb_told v t v.place t.place h.place h)

pub no_graph_told : (v : View) (t : Told) → Tells v t → Tells (record v { graph_name = None }) (record t { graph_name = None })
no_graph_told v t h = record { place = h.place; outer = h.outer; graph_name = refl; opened = h.opened; labels = h.labels; drafted = h.drafted }

-- ---- a place that is ended

leave_told : (v : View) (t : Told) (p : HeldPlace) (outer : List HeldPlace) → v.outer ≡ p ∷ outer → Tells v t → Tells (record v { place = p; outer = outer }) (leave t)
leave_told v t p outer is h = by t.outer (subst (λ ps. AllZip (IsPlace v.labels) ps t.outer) is h.outer)
  where
    by : (qs : List Place) → AllZip (IsPlace v.labels) (p ∷ outer) qs → Tells (record v { place = p; outer = outer }) (leave_to qs t)
    by [] z = absurd z
    by (q ∷ qs) z = record { place = z.0; outer = z.1; graph_name = h.graph_name; opened = h.opened; labels = h.labels; drafted = h.drafted }

leave_none_told : (v : View) (t : Told) → v.outer ≡ [] → Tells v t → Tells (record v { place = Subject; outer = [] }) (leave t)
leave_none_told v t is h = by t.outer (subst (λ ps. AllZip (IsPlace v.labels) ps t.outer) is h.outer)
  where
    by : (qs : List Place) → AllZip (IsPlace v.labels) [] qs → Tells (record v { place = Subject; outer = [] }) (leave_to qs t)
    by [] z = record { place = tt; outer = tt; graph_name = h.graph_name; opened = h.opened; labels = h.labels; drafted = h.drafted }
    by (q ∷ qs) z = absurd z

empty : (xs : List HeldPlace) → length xs ≡ 0 → xs ≡ []
empty [] h = refl
empty (x ∷ xs) h = absurd (omega (arith, h))

last_first : (new : List HeldPlace) (p : HeldPlace) → reverse (new ++ p ∷ []) ≡ p ∷ reverse new
last_first new p = reverse-append new (p ∷ [])

-- the last of the places that are open is popped, where one is
pub record IsPopped (old new : List HeldPlace) (popped : Option HeldPlace) (old_len new_len : ℕ) : Type 0 where
  pub items : old ≡ new ++ option_to_list popped
  pub cases : MatchOption popped ((old_len ≡ 0) × (new_len ≡ 0)) (λ _. new_len + 1 ≡ old_len)
  pub old_len_is : length old ≡ old_len
  pub new_len_is : length new ≡ new_len

pub left_told : (v : View) (t : Told) (old new : List HeldPlace) (popped : Option HeldPlace) (place : HeldPlace) (old_len new_len : ℕ) → v.outer ≡ reverse old → IsPopped old new popped old_len new_len
    → place ≡ unwrap_or popped Subject → Tells v t
    → Tells (record v { place = place; outer = reverse new }) (leave t)
left_told v t old new None place old_len new_len o i is h =
    let none : new ≡ [] = empty new (i.new_len_is ∙ i.cases.1) in
    let all : v.outer ≡ [] = o ∙ ap reverse (empty old (i.old_len_is ∙ i.cases.0)) in
    subst (λ q. Tells (record v { place = q; outer = reverse new }) (leave t)) (sym is) (subst (λ ps. Tells (record v { place = Subject; outer = reverse ps }) (leave t)) (sym none)
    (leave_none_told v t all h))
left_told v t old new (Some p) place old_len new_len o i is h =
    subst (λ q. Tells (record v { place = q; outer = reverse new }) (leave t)) (sym is) (leave_told v t p (reverse new) (o ∙ ap reverse i.items ∙ last_first new p) h)

pub left_sound : (v : View) (old new : List HeldPlace) (popped : Option HeldPlace) (place : HeldPlace) (old_len new_len : ℕ) → v.outer ≡ reverse old → IsPopped old new popped old_len new_len
    → place ≡ unwrap_or popped Subject → IsSound v
    → IsSound (record v { place = place; outer = reverse new })
left_sound v old new None place old_len new_len o i is h = record {
  graph_name = h.graph_name;
  place = subst (IsSoundPlace (length v.labels)) (sym is) tt;
  outer = λ p there. absurd (subst (λ ps. In p (reverse ps)) (empty new (i.new_len_is ∙ i.cases.1)) there);
}
left_sound v old new (Some p) place old_len new_len o i is h =
    let all : v.outer ≡ p ∷ reverse new = o ∙ ap reverse i.items ∙ last_first new p in
    record {
      graph_name = h.graph_name;
      place = subst (IsSoundPlace (length v.labels)) (sym is) (h.outer p (subst (In p) (sym all) (inl refl)));
      outer = λ q there. h.outer q (subst (In q) (sym all) (inr there));
    }
