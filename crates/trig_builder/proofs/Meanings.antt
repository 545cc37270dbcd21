-- What it does to how far a document has come that an IRI, a name or a suffix is met.
use Rattle.std.proofs.Common.{◌≡◌, Bool, true, false, List, [], ◌∷◌, ◌++◌, Option, Some, None, IfSome, is_some, All, refl, sym, ap, subst, ◌∙◌, append_assoc, append-nil}
use Rattle.std.proofs.lemmas.Bool.{false≢true}
use Rattle.std.proofs.lemmas.List.Elements.{All-append}
use Rattle.rdf_terms.proofs.Common.{Text, HasScheme, is_excluded}
use Rattle.rdf_terms.specs.declared.term.Label.{Label}
use Rattle.iri_resolve.specs.Scheme.{begins_with_scheme}
use Rattle.iri_resolve.proofs.Schemes.{begins_with_scheme-HasScheme}
use Rattle.trig_terms.specs.declared.leaf.Leaf.{Leaf}
use Rattle.trig_terms.specs.Meaning.{State, Place, absolute, resolved_by, looked_up, meet_namespace_in, meet_iri, meet_behind, meet_defined, behind_prefix, Undefined}
use Rattle.trig_terms.specs.Meaning.Place.{AtSubject, AtVerb, AtObject, InItems, AtItem, AtPrefixIri, AtBaseIri}
use Rattle.trig_terms.specs.Meaning.Undefined.{NoPrefix}
use Rattle.trig_builder.specs.declared.builder.Missing.{Missing}
use Rattle.trig_builder.specs.declared.builder.Missing.TheVariants.{Prefix, Base}
use Rattle.trig_builder.specs.declared.place.Place.{Place as HeldPlace}
use Rattle.trig_builder.specs.declared.place.Place.TheVariants.{AtSubject as Subject, AtVerb as Verb, AtObject as Object, InItems as Items, AtItem as Item, AtPrefixName as PrefixName, AtPrefixIri as PrefixIri, AtBaseIri as BaseIri}
use Rattle.trig_builder.specs.Telling.{IsPlace}
use Rattle.trig_builder.specs.Building.{IsWhole, undefined_of}

-- where no directive names a prefix, PNAME_NS is met as a name
pub met_as_name : (labels : List Label) (p : HeldPlace) (q : Place) → IsPlace labels p q → ¬ (p ≡ PrefixName) → (prefix : Text) (s : State)
    → meet_iri (looked_up s.prefixes prefix) NoPrefix s ≡ meet_namespace_in q prefix s
met_as_name labels PrefixName q h isnt prefix s = absurd (isnt refl)
met_as_name labels Subject AtSubject h isnt prefix s = refl
met_as_name labels (Verb t) (AtVerb subject) h isnt prefix s = refl
met_as_name labels (Object t v) (AtObject subject verb) h isnt prefix s = refl
met_as_name labels (Items n) (InItems cell) h isnt prefix s = refl
met_as_name labels (Item n) (AtItem cell) h isnt prefix s = refl
met_as_name labels PrefixIri AtPrefixIri h isnt prefix s = refl
met_as_name labels BaseIri AtBaseIri h isnt prefix s = refl
met_as_name labels _ _ h isnt prefix s = absurd h

-- ---- IRIs

-- what begins with a scheme is taken as it is
pub absolute_is : (base : Option Text) (iri : Text) → HasScheme iri → Some iri ≡ absolute base iri
absolute_is base iri h = sym (rw ((begins_with_scheme-HasScheme iri).1 h) refl)

-- and anything else is resolved
pub relative_is : (base : Option Text) (iri : Text) → ¬ (HasScheme iri) → resolved_by base iri ≡ absolute base iri
relative_is base iri isnt = by (begins_with_scheme iri) refl
  where
    by : (b : Bool) → begins_with_scheme iri ≡ b → resolved_by base iri ≡ absolute base iri
    by true e = absurd (isnt ((begins_with_scheme-HasScheme iri).0 e))
    by false e = sym (rw e refl)

pub whole_name : (iri local : Text) → IsWhole iri → All (λ c. is_excluded c ≡ false) local → IsWhole (iri ++ local)
whole_name iri local h allowed = record {
  has_scheme = record {
    letter = h.has_scheme.letter;
    more = h.has_scheme.more;
    rest = h.has_scheme.rest ++ local;
    spelled = ap (λ t. t ++ local) h.has_scheme.spelled ∙ ap (λ t. h.has_scheme.letter ∷ t) (append_assoc h.has_scheme.more (58 ∷ h.has_scheme.rest) local);
    begins = h.has_scheme.begins;
    goes_on = h.has_scheme.goes_on;
  };
  allowed = All-append (λ c. is_excluded c ≡ false) iri local h.allowed allowed;
}

-- ---- names

pub whole_spelled : (o : Option Text) (iri local name : Text) → IfSome o IsWhole → o ≡ Some iri → All (λ c. is_excluded c ≡ false) local → name ≡ iri ++ local → IsWhole name
whole_spelled o iri local name h is allowed spelled = subst IsWhole (sym spelled) (whole_name iri local (subst (λ x. IfSome x IsWhole) is h) allowed)

-- a local part without characters adds none
pub behind_nothing : (o : Option Text) → behind_prefix o [] ≡ o
behind_nothing None = refl
behind_nothing (Some iri) = ap (λ t. Some t) (append-nil iri)

-- ---- uses without a definition

pub is_undefined : (m : Option Missing) → is_some m ≡ true → (u : Option Undefined) → undefined_of m ≡ u → (leaf : Leaf) (s : State) → s ≡ meet_defined u leaf s
is_undefined None some u is leaf s = absurd (false≢true some)
is_undefined (Some Prefix) some u is leaf s = subst (λ w. s ≡ meet_defined w leaf s) is refl
is_undefined (Some Base) some u is leaf s = subst (λ w. s ≡ meet_defined w leaf s) is refl

pub is_defined : (m : Option Missing) → is_some m ≡ false → (u : Option Undefined) → undefined_of m ≡ u → (leaf : Leaf) (s : State) → meet_behind s.pending leaf s ≡ meet_defined u leaf s
is_defined None none u is leaf s = subst (λ w. meet_behind s.pending leaf s ≡ meet_defined w leaf s) is refl
is_defined (Some why) none u is leaf s = absurd (false≢true (sym none))
