-- What it does that a term stands in a place.
use Rattle.std.proofs.Common.{◌≡◌, ℕ, List, Option, Some, None, IfSome, codes, refl, sym, ap, subst, ◌∙◌}
use Rattle.rdf_terms.specs.Terms.{Statement, IsIri, IsValidTerm, IsValidStatement}
use Rattle.rdf_terms.specs.declared.term.Term.{Term}
use Rattle.rdf_terms.specs.declared.term.Term.TheVariants.{Iri as IriTerm, Blank}
use Rattle.rdf_terms.specs.declared.term.Label.{Label}
use Rattle.trig_terms.specs.Meaning.{Said, Told, Place, say, put, put_in, put_verb, rdf_first, rdf}
use Rattle.trig_terms.specs.Meaning.Said.{Iri, Node, Literal}
use Rattle.trig_terms.specs.Meaning.Place.{AtVerb, AtObject, AtItem}
use Rattle.trig_builder.specs.declared.place.Place.{Place as HeldPlace}
use Rattle.trig_builder.specs.declared.place.Place.TheVariants.{AtVerb as Verb, AtObject as Object, InItems as Items, AtItem as Item}
use Rattle.trig_builder.specs.Numbered.{IsTermOf, IsName, Says}
use Rattle.trig_builder.specs.Telling.{View, with_verb, IsSound, IsPlace, Tells}
use Rattle.trig_builder.proofs.Growth.{drafted_said}

-- ---- what place it is

record IsVerbPlace (labels : List Label) (s : Term) (q : Place) : Type 0 where
  subject : Said
  is : AtVerb subject ≡ q
  term : IsTermOf labels subject s

at_verb : (labels : List Label) (s : Term) (q : Place) → IsPlace labels (Verb s) q → IsVerbPlace labels s q
at_verb labels s (AtVerb subject) h = record { subject = subject; is = refl; term = h }
at_verb labels s _ h = absurd h

record IsObjectPlace (labels : List Label) (s v : Term) (q : Place) : Type 0 where
  subject : Said
  verb : Said
  is : AtObject subject verb ≡ q
  subject_term : IsTermOf labels subject s
  verb_term : IsTermOf labels verb v

at_object : (labels : List Label) (s v : Term) (q : Place) → IsPlace labels (Object s v) q → IsObjectPlace labels s v q
at_object labels s v (AtObject subject verb) h = record { subject = subject; verb = verb; is = refl; subject_term = h.0; verb_term = h.1 }
at_object labels s v _ h = absurd h

record IsItemPlace (labels : List Label) (n : ℕ) (q : Place) : Type 0 where
  cell : Said
  is : AtItem cell ≡ q
  term : IsTermOf labels cell (Blank n)

at_item : (labels : List Label) (n : ℕ) (q : Place) → IsPlace labels (Item n) q → IsItemPlace labels n q
at_item labels n (AtItem cell) h = record { cell = cell; is = refl; term = h }
at_item labels n _ h = absurd h

-- ---- a verb

verb_said : (v : View) (t : Told) (subject said : Said) (s term : Term) → IsIri term → IsTermOf v.labels said term → IsTermOf v.labels subject s → Tells v t
    → Tells (record v { place = Object s term }) (put_verb subject said t)
verb_said v t subject (Iri text) s term iri is k h = record { place = (k, is); outer = h.outer; graph_name = h.graph_name; opened = h.opened; labels = h.labels; drafted = h.drafted }
verb_said v t subject (Node label) s term iri is k h = absurd (subst IsIri is.2 iri)
verb_said v t subject (Literal l) s term iri is k h = absurd (subst IsIri is iri)

pub verb_told : (v : View) (t : Told) (said : Said) (s term : Term) → v.place ≡ Verb s → IsIri term → IsTermOf v.labels said term → Tells v t → Tells (record v { place = Object s term }) (put said t)
verb_told v t said s term here iri is h =
    let at = at_verb v.labels s t.place (subst (λ p. IsPlace v.labels p t.place) here h.place) in
    subst (λ q. Tells (record v { place = Object s term }) (put_in q said t)) at.is (verb_said v t at.subject said s term iri is at.term h)

-- the verb comes behind the subject
behind_subject : (s term verb : Term) (place was old : HeldPlace) → old ≡ Verb s → was ≡ old → verb ≡ term → place ≡ with_verb verb was → place ≡ Object s term
behind_subject s term verb place was old here same copied is = is ∙ ap (with_verb verb) (same ∙ here) ∙ ap (Object s) copied

pub verb_put_told : (v : View) (t : Told) (said : Said) (s term verb : Term) (place was : HeldPlace) → v.place ≡ Verb s → was ≡ v.place → verb ≡ term → place ≡ with_verb verb was
    → IsIri term → IsTermOf v.labels said term → Tells v t → Tells (record v { place = place }) (put said t)
verb_put_told v t said s term verb place was here same copied is iri term_is h =
    subst (λ p. Tells (record v { place = p }) (put said t)) (sym (behind_subject s term verb place was v.place here same copied is)) (verb_told v t said s term here iri term_is h)

-- ---- what is said is valid

pub quad_valid : (nodes : ℕ) (subject verb object : Term) (name : Option Term) → IsName nodes subject → IfSome name (IsName nodes) → IsIri verb → IsValidTerm nodes verb → IsValidTerm nodes object
    → IsValidStatement nodes (record { subject = subject; predicate = verb; object = object; graph_name = name })
quad_valid nodes subject verb object None one graph iri valid object_valid = record {
  subject_kind = one.0;
  predicate_kind = iri;
  graph_name_kind = tt;
  subject = one.1;
  predicate = valid;
  object = object_valid;
  graph_name = tt;
}
quad_valid nodes subject verb object (Some term) one graph iri valid object_valid = record {
  subject_kind = one.0;
  predicate_kind = iri;
  graph_name_kind = graph.0;
  subject = one.1;
  predicate = valid;
  object = object_valid;
  graph_name = graph.1;
}

-- ---- an object

-- the quad of these terms is said
pub quad_told : (v : View) (t : Told) (subject verb object : Said) (s predicate term : Term) (labels : List Label) (new : List Statement) → labels ≡ v.labels
    → IsTermOf v.labels subject s → IsTermOf v.labels verb predicate → IsTermOf v.labels object term
    → Says v.said (record { subject = s; predicate = predicate; object = term; graph_name = v.graph_name }) new → Tells v t
    → Tells (record v { labels = labels; said = new }) (say subject verb object t)
quad_told v t subject verb object s predicate term labels new same k p o said h =
    subst (λ ls. Tells (record v { labels = ls; said = new }) (say subject verb object t)) (sym same) (record {
      place = h.place;
      outer = h.outer;
      graph_name = h.graph_name;
      opened = h.opened;
      labels = h.labels;
      drafted = drafted_said v.labels t.quads (record { subject = subject; predicate = verb; object = object; graph_name = t.graph_name }) v.said new _ h.drafted (record {
        subject = k;
        predicate = p;
        object = o;
        graph_name = h.graph_name;
      }) said;
    })

pub object_told : (v : View) (t : Told) (said : Said) (s predicate term : Term) (labels : List Label) (new : List Statement) → v.place ≡ Object s predicate → labels ≡ v.labels
    → IsTermOf v.labels said term → Says v.said (record { subject = s; predicate = predicate; object = term; graph_name = v.graph_name }) new → Tells v t
    → Tells (record v { labels = labels; said = new }) (put said t)
object_told v t said s predicate term labels new here same is says h =
    let at = at_object v.labels s predicate t.place (subst (λ p. IsPlace v.labels p t.place) here h.place) in
    subst (λ q. Tells (record v { labels = labels; said = new }) (put_in q said t)) at.is
    (quad_told v t at.subject at.verb said s predicate term labels new same at.subject_term at.verb_term is says h)

-- ---- an item

abbrev first_text : List ℕ
first_text = rdf (codes "first")

pub item_told : (v : View) (t : Told) (said : Said) (n : ℕ) (term : Term) (labels : List Label) (new : List Statement) → v.place ≡ Item n → labels ≡ v.labels
    → IsTermOf v.labels said term → Says v.said (record { subject = Blank n; predicate = IriTerm first_text; object = term; graph_name = v.graph_name }) new → Tells v t
    → Tells (record v { labels = labels; said = new; place = Items (Some n) }) (put said t)
item_told v t said n term labels new here same is says h =
    let at = at_item v.labels n t.place (subst (λ p. IsPlace v.labels p t.place) here h.place) in
    let told = quad_told v t at.cell rdf_first said (Blank n) (IriTerm first_text) term labels new same at.term refl is says h in
    subst (λ q. Tells (record v { labels = labels; said = new; place = Items (Some n) }) (put_in q said t)) at.is (record {
      place = subst (λ ls. IsTermOf ls at.cell (Blank n)) (sym same) at.term;
      outer = told.outer;
      graph_name = told.graph_name;
      opened = told.opened;
      labels = told.labels;
      drafted = told.drafted;
    })

-- a quad in place of those that were said leaves all else as it is
pub sound_said : (v : View) (labels : List Label) (new : List Statement) → labels ≡ v.labels → IsSound v → IsSound (record v { labels = labels; said = new })
sound_said v labels new same h = subst (λ ls. IsSound (record v { labels = ls; said = new })) (sym same) (record { graph_name = h.graph_name; place = h.place; outer = h.outer })
