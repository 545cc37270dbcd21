-- Valid quads, and the nodes of a draft.
use Rattle.std.proofs.Common.{◌≡◌, ℕ, zero, suc, ◌<◌, ◌≤◌, ◌+◌, false, List, [], ◌∷◌, None, All, length, refl, inl, inr, sym, ap, subst, arith, length-append}
use Rattle.std.proofs.lemmas.Option.{slice_get_within}
use Rattle.rdf_terms.proofs.Common.{Text, IsIri, IsIriOrBlank, IsValidTerm, IsValidStatement, IsAbsoluteIri, is_excluded, Interns}
use Rattle.rdf_terms.specs.declared.term.Term.{Term}
use Rattle.rdf_terms.specs.declared.term.Term.TheVariants.{Iri, Blank, Literal}

-- the text `e:a`
abbrev short_iri : Text
short_iri = 101 ∷ 58 ∷ 97 ∷ []

allowed : All (λ c. is_excluded c ≡ false) short_iri
allowed zero d h = refl
allowed (suc zero) d h = refl
allowed (suc (suc zero)) d h = refl
allowed (suc (suc (suc i))) d h = absurd (omega (arith, h))

pub is_absolute : (text : Text) → text ≡ short_iri → IsAbsoluteIri text
unfolding lib.Utf8.encode
is_absolute text e = subst IsAbsoluteIri (sym e) (record {
  has_scheme = record { letter = 101; more = []; rest = 97 ∷ []; spelled = refl; begins = refl; goes_on = λ i d h. absurd (omega (arith, h)) };
  allowed = allowed;
  utf8 = (short_iri, (refl, refl));
})

-- an IRI is valid whatever the number of nodes
valid : (nodes : ℕ) (t : Term) → IsIri t → IsValidTerm 0 t → IsValidTerm nodes t
valid nodes (Iri text) is v = v
valid nodes (Blank n) is v = absurd is
valid nodes (Literal l) is v = absurd is

or_blank : (t : Term) → IsIri t → IsIriOrBlank t
or_blank (Iri text) is = is
or_blank (Blank n) is = absurd is
or_blank (Literal l) is = absurd is

pub behind_subject : (nodes : ℕ) (s p o : Term) → IsIriOrBlank s → IsValidTerm nodes s → IsIri p → IsValidTerm 0 p → IsIri o → IsValidTerm 0 o
    → IsValidStatement nodes (record { subject = s; predicate = p; object = o; graph_name = None })
behind_subject nodes s p o kind v is_p v_p is_o v_o = record {
  subject_kind = kind;
  predicate_kind = is_p;
  graph_name_kind = tt;
  subject = v;
  predicate = valid nodes p is_p v_p;
  object = valid nodes o is_o v_o;
  graph_name = tt;
}

pub of_iris : (nodes : ℕ) (s p o : Term) → IsIri s → IsValidTerm 0 s → IsIri p → IsValidTerm 0 p → IsIri o → IsValidTerm 0 o
    → IsValidStatement nodes (record { subject = s; predicate = p; object = o; graph_name = None })
of_iris nodes s p o is_s v_s = behind_subject nodes s p o (or_blank s is_s) (valid nodes s is_s v_s)

module _ {A : Type 0} (old new : List A) (x : A) (n : ℕ) (h : Interns old new x n) where
  pub is_within : n < length new
  is_within = slice_get_within new n x h.at

  pub is_one_longer : length new ≤ length old + 1
  is_one_longer = elim h.adds as (λ _. length new ≤ length old + 1) [ inl p ↦ omega (arith, ap length p.0) | inr p ↦ omega (arith, ap length p.0, length-append old (x ∷ [])) ]
