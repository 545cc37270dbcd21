-- A term is known by its text and the space behind it, and the text has no control character.
use Rattle.std.proofs.Common.{◌≡◌, ◌≢◌, ℕ, ◌≤◌, Bool, true, false, nat_le, if◌then◌else◌, List, [], ◌∷◌, ◌++◌, All, refl, sym, ap, subst, ◌∙◌, arith, append_assoc, true≢false}
use Rattle.std.specs.Char.{is_ascii_alphabetic, is_ascii_alphanumeric}
use Rattle.std.specs.List.{flat_map}
use Rattle.std.specs.Str.{bytes_eq}
use Rattle.std.proofs.lemmas.Bool.{or_parts}
use Rattle.std.proofs.lemmas.Bool.Decides.{nat_tests}
use Rattle.std.proofs.lemmas.List.Elements.{All-head, All-tail, All-cons, All-append, All-weaker, All-nil}
use Rattle.std.proofs.lemmas.Slice.Eq.{bytes_eq-Decides}
use Rattle.rdf_terms.proofs.Common.{Text, IsAbsoluteIri, IsLanguageTag, IsSubtag, IsValidKind, IsValidTerm, is_excluded, behind_dashes, Naming, canonical_term, canonical_suffix, escaped, xsd_string}
use Rattle.rdf_terms.specs.declared.term.Term.{Term}
use Rattle.rdf_terms.specs.declared.term.Term.TheVariants.{Iri, Blank, Literal}
use Rattle.rdf_terms.specs.declared.term.LiteralKind.{LiteralKind}
use Rattle.rdf_terms.specs.declared.term.LiteralKind.TheVariants.{Typed, Tagged}
use Rattle.canonical_writer.specs.Determined.{HasPlainNames, AgreeTerms}
use Rattle.canonical_writer.proofs.Splitting.{head_of, tail_of, split_at}
use Rattle.canonical_writer.proofs.Unescaping.{same_string, string-printable, printable_byte}

-- ---- bytes that stand in no IRI, tag or name

iri_without : (d : ℕ) → is_excluded d ≡ true → (t : Text) → IsAbsoluteIri t → All (λ c. c ≢ d) t
iri_without d x t v =
    All-weaker (λ c. is_excluded c ≡ false) (λ c. c ≢ d) (λ c h e. true≢false (sym x ∙ subst (λ k. is_excluded k ≡ false) e h)) t v.allowed

letter-plain : (c : ℕ) → is_ascii_alphabetic c ≡ true → is_ascii_alphanumeric c ≡ true
letter-plain c h = grind (arith, nat_tests)

-- what holds of letters, digits and `-` holds of the bytes of names and tags
module _ (P : ℕ → Type 0) (plain : (c : ℕ) → is_ascii_alphanumeric c ≡ true → P c) (dash : P 45) where
  pub All-plain : (t : Text) → All (λ c. is_ascii_alphanumeric c ≡ true) t → All P t
  All-plain t h = All-weaker (λ c. is_ascii_alphanumeric c ≡ true) P plain t h

  All-subtags : (ts : List Text) → All IsSubtag ts → All P (behind_dashes ts)
  All-subtags [] h = All-nil _
  All-subtags (t ∷ ts) h =
      All-cons P 45 _ dash (All-append P t (behind_dashes ts) (All-plain t (All-head IsSubtag t ts h).alphanumeric) (All-subtags ts (All-tail IsSubtag t ts h)))

  pub All-tag : (t : Text) → IsLanguageTag t → All P t
  All-tag t v =
      let first = All-weaker (λ c. is_ascii_alphabetic c ≡ true) P (λ c h. plain c (letter-plain c h)) v.primary v.is_primary.letters in
      subst (All P) (sym v.spelled) (All-append P v.primary (behind_dashes v.subtags) first (All-subtags v.subtags v.are_subtags))

no_space : (c : ℕ) → is_ascii_alphanumeric c ≡ true → c ≢ 32
no_space c h e = true≢false (sym h ∙ ap is_ascii_alphanumeric e)

pub name-spaceless : (t : Text) → All (λ c. is_ascii_alphanumeric c ≡ true) t → All (λ c. c ≢ 32) t
name-spaceless t h = All-weaker (λ c. is_ascii_alphanumeric c ≡ true) (λ c. c ≢ 32) no_space t h

pub tag-spaceless : (t : Text) → IsLanguageTag t → All (λ c. c ≢ 32) t
tag-spaceless t v = All-tag (λ c. c ≢ 32) no_space (λ h. absurd (omega (arith, h))) t v

-- ---- what stands behind a string

pub data Suffix : LiteralKind → Text → Type 0 where
  of_string : (a : Text) → a ≡ xsd_string → Suffix (Typed a) []
  of_type : (a : Text) → Suffix (Typed a) (94 ∷ 94 ∷ 60 ∷ (a ++ 62 ∷ []))
  of_tag : (t : Text) → Suffix (Tagged t) (64 ∷ t)

pub suffix_of : (k : LiteralKind) → Suffix k (canonical_suffix k)
suffix_of (Tagged t) = of_tag t
suffix_of (Typed a) = by (bytes_eq a xsd_string) refl
  where
    by : (b : Bool) → bytes_eq a xsd_string ≡ b → Suffix (Typed a) (if b then [] else 94 ∷ 94 ∷ 60 ∷ (a ++ 62 ∷ []))
    by true e = of_string a ((bytes_eq-Decides a xsd_string).0 e)
    by false e = of_type a

pub type_regrouped : (a r : Text) → (94 ∷ 94 ∷ 60 ∷ (a ++ 62 ∷ [])) ++ 32 ∷ r ≡ 94 ∷ 94 ∷ 60 ∷ (a ++ 62 ∷ 32 ∷ r)
type_regrouped a r = ap (λ t. 94 ∷ 94 ∷ 60 ∷ t) (append_assoc a (62 ∷ []) (32 ∷ r))

same_suffix : (k l : LiteralKind) (v w r s : Text) → Suffix k v → Suffix l w → IsValidKind k → IsValidKind l → v ++ 32 ∷ r ≡ w ++ 32 ∷ s → (k ≡ l) × (r ≡ s)
same_suffix k l v w r s (of_string a p) (of_string b q) f g e = (ap Typed (p ∙ sym q), ap tail_of e)
same_suffix k l v w r s (of_string a p) (of_type b) f g e = absurd (omega (arith, ap head_of e))
same_suffix k l v w r s (of_string a p) (of_tag b) f g e = absurd (omega (arith, ap head_of e))
same_suffix k l v w r s (of_type a) (of_string b q) f g e = absurd (omega (arith, ap head_of e))
same_suffix k l v w r s (of_type a) (of_type b) f g e =
    let h = ap (λ t. tail_of (tail_of (tail_of t))) (sym (type_regrouped a r) ∙ (e ∙ type_regrouped b s)) in
    let p = split_at 62 a b (32 ∷ r) (32 ∷ s) (iri_without 62 refl a f) (iri_without 62 refl b g) h in
    (ap Typed p.0, ap tail_of p.1)
same_suffix k l v w r s (of_type a) (of_tag b) f g e = absurd (omega (arith, ap head_of e))
same_suffix k l v w r s (of_tag a) (of_string b q) f g e = absurd (omega (arith, ap head_of e))
same_suffix k l v w r s (of_tag a) (of_type b) f g e = absurd (omega (arith, ap head_of e))
same_suffix k l v w r s (of_tag a) (of_tag b) f g e =
    let p = split_at 32 a b r s (tag-spaceless a f) (tag-spaceless b g) (ap tail_of e) in
    (ap Tagged p.0, p.1)

-- ---- terms

pub iri_regrouped : (a r : Text) → (60 ∷ (a ++ 62 ∷ [])) ++ 32 ∷ r ≡ 60 ∷ (a ++ 62 ∷ 32 ∷ r)
iri_regrouped a r = ap (λ t. 60 ∷ t) (append_assoc a (62 ∷ []) (32 ∷ r))

pub string_regrouped : (a v r : Text) → (34 ∷ (a ++ 34 ∷ v)) ++ 32 ∷ r ≡ 34 ∷ (a ++ 34 ∷ (v ++ 32 ∷ r))
string_regrouped a v r = ap (λ t. 34 ∷ t) (append_assoc a (34 ∷ v) (32 ∷ r))

module _ (ν ν' : Naming) (m n : ℕ) (plain : HasPlainNames m ν) (plain' : HasPlainNames n ν') where
  pub same_term : (t u : Term) (r s : Text) → IsValidTerm m t → IsValidTerm n u → canonical_term ν t ++ 32 ∷ r ≡ canonical_term ν' u ++ 32 ∷ s → AgreeTerms ν ν' t u × (r ≡ s)
  same_term (Iri a) (Iri b) r s f g e =
      let h = ap tail_of (sym (iri_regrouped a r) ∙ (e ∙ iri_regrouped b s)) in
      let p = split_at 62 a b (32 ∷ r) (32 ∷ s) (iri_without 62 refl a f) (iri_without 62 refl b g) h in
      (p.0, ap tail_of p.1)
  same_term (Iri a) (Blank j) r s f g e = absurd (omega (arith, ap head_of e))
  same_term (Iri a) (Literal l) r s f g e = absurd (omega (arith, ap head_of e))
  same_term (Blank i) (Iri b) r s f g e = absurd (omega (arith, ap head_of e))
  same_term (Blank i) (Blank j) r s f g e =
      split_at 32 (ν i) (ν' j) r s (name-spaceless (ν i) (plain i f)) (name-spaceless (ν' j) (plain' j g)) (ap (λ t. tail_of (tail_of t)) e)
  same_term (Blank i) (Literal l) r s f g e = absurd (omega (arith, ap head_of e))
  same_term (Literal k) (Iri b) r s f g e = absurd (omega (arith, ap head_of e))
  same_term (Literal k) (Blank j) r s f g e = absurd (omega (arith, ap head_of e))
  same_term (Literal k) (Literal l) r s f g e =
      let h = ap tail_of (sym (string_regrouped (flat_map escaped k.lexical) (canonical_suffix k.kind) r) ∙ (e ∙ string_regrouped (flat_map escaped l.lexical) (canonical_suffix l.kind) s)) in
      let p = same_string k.lexical l.lexical _ _ h in
      let q = same_suffix k.kind l.kind (canonical_suffix k.kind) (canonical_suffix l.kind) r s (suffix_of k.kind) (suffix_of l.kind) f.1 g.1 p.1 in
      (λ i. record { lexical = p.0 i; kind = q.0 i }, q.1)

-- the term begins with no dot
pub no_dot : (ν : Naming) (u : Term) (x : Text) → head_of (canonical_term ν u ++ x) ≢ 46
no_dot ν (Iri a) x h = absurd (omega (arith, h))
no_dot ν (Blank j) x h = absurd (omega (arith, h))
no_dot ν (Literal l) x h = absurd (omega (arith, h))

-- ---- no control character

allowed-printable : (c : ℕ) → is_excluded c ≡ false → 32 ≤ c
allowed-printable c h = past c (or_parts (nat_le c 32) _ h).0
  where
    past : (c : ℕ) → nat_le c 32 ≡ false → 32 ≤ c
    past c e = grind (arith, nat_tests)

plain-printable : (c : ℕ) → is_ascii_alphanumeric c ≡ true → 32 ≤ c
plain-printable c h = grind (arith, nat_tests)

closed-printable : (a : Text) → IsAbsoluteIri a → All (λ c. 32 ≤ c) (60 ∷ (a ++ 62 ∷ []))
closed-printable a f =
    printable_byte 60 (omega arith) (a ++ 62 ∷ [])
    (All-append (λ c. 32 ≤ c) a (62 ∷ []) (All-weaker (λ c. is_excluded c ≡ false) (λ c. 32 ≤ c) allowed-printable a f.allowed) (printable_byte 62 (omega arith) [] (All-nil _)))

suffix-printable : (k : LiteralKind) (v : Text) → Suffix k v → IsValidKind k → All (λ c. 32 ≤ c) v
suffix-printable k v (of_string a p) f = All-nil _
suffix-printable k v (of_type a) f = printable_byte 94 (omega arith) (94 ∷ 60 ∷ (a ++ 62 ∷ [])) (printable_byte 94 (omega arith) (60 ∷ (a ++ 62 ∷ [])) (closed-printable a f))
suffix-printable k v (of_tag t) f = printable_byte 64 (omega arith) t (All-tag (λ c. 32 ≤ c) plain-printable (omega arith) t f)

pub term-printable : (ν : Naming) (n : ℕ) → HasPlainNames n ν → (t : Term) → IsValidTerm n t → All (λ c. 32 ≤ c) (canonical_term ν t)
term-printable ν n plain (Iri a) f = closed-printable a f
term-printable ν n plain (Blank j) f =
    printable_byte 95 (omega arith) (58 ∷ ν j) (printable_byte 58 (omega arith) (ν j) (All-plain (λ c. 32 ≤ c) plain-printable (omega arith) (ν j) (plain j f)))
term-printable ν n plain (Literal l) f =
    printable_byte 34 (omega arith) (flat_map escaped l.lexical ++ 34 ∷ canonical_suffix l.kind)
    (All-append (λ c. 32 ≤ c) (flat_map escaped l.lexical) (34 ∷ canonical_suffix l.kind) (string-printable l.lexical)
    (printable_byte 34 (omega arith) (canonical_suffix l.kind) (suffix-printable l.kind (canonical_suffix l.kind) (suffix_of l.kind) f.1)))
