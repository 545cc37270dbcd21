-- A table of terms with their hashes answers as the list of its terms would, whatever the keys are.
use Rattle.std.proofs.Common.{◌≡◌, ℕ, ◌+◌, Bool, true, false, cond, not, nat_lt, eqb, ◌&&◌, ◌||◌, List, [], ◌∷◌, ◌++◌, map, take, Some, None, option_map, slice_get, if◌then◌else◌, inl, inr, refl, sym, ap, subst, ◌∙◌}
use Rattle.std.specs.List.{list_any, position, prefix_len}
use Rattle.std.proofs.lemmas.Bool.{and_parts}
use Rattle.std.proofs.lemmas.List.{length-map, map-append, take-map}
use Rattle.std.proofs.lemmas.Option.{slice_get-map}
use Rattle.std.specs.declared.hash.RandomState.{RandomState}
use Rattle.rdf_terms.specs.Document.{Adds}
use Rattle.rdf_terms.specs.References.{term_of}
use Rattle.rdf_terms.specs.LookupHash.{lookup_hash}
use Rattle.rdf_terms.specs.HashedTerm.{hashed, terms_of, AreHashed}
use Rattle.rdf_terms.specs.Ends.{known_in, ends_of, places_in}
use Rattle.rdf_terms.proofs.Equal.{same_term}
use Rattle.rdf_terms.specs.declared.term.Term.{Term}
use Rattle.rdf_terms.specs.declared.term_ref.StatementRef.{StatementRef}
use Rattle.rdf_terms.specs.declared.hashed_term.HashedTerm.{HashedTerm}
use Rattle.rdf_terms.specs.contracts.term.TermPartialEq.TheImpl.{eq-value as eq-term}
use Rattle.rdf_terms.specs.contracts.hashed_term.HashedTermPartialEq.TheImpl.{eq-value as eq-hashed}
use Rattle.rdf_terms.specs.contracts.hashed_term.HashedTermEq.TheImpl.Laws.{laws-law as hashed_law}
use Rattle.rdf_terms.proofs.Membership.{present, absent}
use Rattle.rdf_terms.proofs.SameTerm.{terms_tell}

and_false : (b : Bool) → (b && false) ≡ false
and_false true = refl
and_false false = refl

-- under one hash for each term, entries are equal where their terms are
same_test : (k : RandomState) (t x : Term) → eq-hashed.it (hashed k t) (hashed k x) ≡ eq-term.it t x
same_test k t x = by (eq-term.it t x) refl
  where
    by : (b : Bool) → eq-term.it t x ≡ b → eq-hashed.it (hashed k t) (hashed k x) ≡ eq-term.it t x
    by true e = subst (λ y. eq-hashed.it (hashed k t) (hashed k y) ≡ true) (same_term t x e) (hashed_law.refl (hashed k t)) ∙ sym e
    by false e = ap (λ b. eqb (lookup_hash k t) (lookup_hash k x) && b) e ∙ and_false (eqb (lookup_hash k t) (lookup_hash k x)) ∙ sym e

any_same : (k : RandomState) (t : Term) (ts : List Term) → list_any (eq-hashed.it (hashed k t)) (map (hashed k) ts) ≡ list_any (eq-term.it t) ts
any_same k t [] = refl
any_same k t (x ∷ xs) = λ i. same_test k t x i || any_same k t xs i

front_same : (k : RandomState) (t : Term) (ts : List Term) → prefix_len (λ x. not (eq-hashed.it (hashed k t) x)) (map (hashed k) ts) ≡ prefix_len (λ x. not (eq-term.it t x)) ts
front_same k t [] = refl
front_same k t (x ∷ xs) = λ i. cond (not (same_test k t x i)) (1 + front_same k t xs i) 0

position_same : (k : RandomState) (t : Term) (ts : List Term) → position (eq-hashed.it (hashed k t)) (map (hashed k) ts) ≡ position (eq-term.it t) ts
position_same k t ts = λ i. cond (nat_lt (front_same k t ts i) (length-map ts (hashed k) i)) (Some (front_same k t ts i)) None

module _ (k : RandomState) (hs : List HashedTerm) (e : AreHashed k hs) where
  pub listed : (t : Term) → list_any (eq-hashed.it (hashed k t)) hs ≡ list_any (eq-term.it t) (terms_of hs)
  listed t = ap (list_any (eq-hashed.it (hashed k t))) e ∙ any_same k t (terms_of hs)

  pub found : (t : Term) → position (eq-hashed.it (hashed k t)) hs ≡ position (eq-term.it t) (terms_of hs)
  found t = ap (position (eq-hashed.it (hashed k t))) e ∙ position_same k t (terms_of hs)

  pub known_is : (q : StatementRef) → places_in hs (ends_of k q) ≡ known_in (terms_of hs) q
  known_is q = λ i. record { subject = found (term_of q.subject) i; object = found (term_of q.object) i }

  pub known_all : (qs : List StatementRef) → map (places_in hs) (map (ends_of k) qs) ≡ map (known_in (terms_of hs)) qs
  known_all [] = refl
  known_all (q ∷ qs) = λ i. known_is q i ∷ known_all qs i

  pub AreHashed-take : (n : ℕ) → AreHashed k (take n hs)
  AreHashed-take n = ap (take n) e ∙ take-map (hashed k) n (terms_of hs) ∙ ap (map (hashed k)) (take-map (λ (h : HashedTerm). h.term) n hs)

  AreHashed-push : (t : Term) → AreHashed k (hs ++ hashed k t ∷ [])
  AreHashed-push t =
      ap (λ l. l ++ hashed k t ∷ []) e ∙ sym (map-append (hashed k) (terms_of hs) (t ∷ []))
      ∙ ap (map (hashed k)) (sym (map-append (λ (h : HashedTerm). h.term) hs (hashed k t ∷ [])))

  module _ (t : Term) (new : List HashedTerm) (ins : new ≡ (if list_any (eq-hashed.it (hashed k t)) hs then hs else hs ++ hashed k t ∷ [])) where
    pub interned_adds : Adds (terms_of hs) t (terms_of new)
    interned_adds = by (list_any (eq-hashed.it (hashed k t)) hs) refl ins
      where
        by : (b : Bool) → list_any (eq-hashed.it (hashed k t)) hs ≡ b → new ≡ (if b then hs else hs ++ hashed k t ∷ []) → Adds (terms_of hs) t (terms_of new)
        by true is n = inl (ap terms_of n, present eq-term.it terms_tell t (terms_of hs) (sym (listed t) ∙ is))
        by false is n = inr (ap terms_of n ∙ map-append (λ (h : HashedTerm). h.term) hs (hashed k t ∷ []), absent eq-term.it terms_tell t (terms_of hs) (sym (listed t) ∙ is))

    pub interned_hashed : AreHashed k new
    interned_hashed = by (list_any (eq-hashed.it (hashed k t)) hs) ins
      where
        by : (b : Bool) → new ≡ (if b then hs else hs ++ hashed k t ∷ []) → AreHashed k new
        by true n = subst (AreHashed k) (sym n) e
        by false n = subst (AreHashed k) (sym n) (AreHashed-push t)

pub term_at_number : (hs : List HashedTerm) (n : ℕ) → slice_get (terms_of hs) n ≡ option_map (λ (h : HashedTerm). h.term) (slice_get hs n)
term_at_number hs n = slice_get-map (λ (h : HashedTerm). h.term) hs n

pub at_number : (hs : List HashedTerm) (n : ℕ) (h : HashedTerm) → slice_get hs n ≡ Some h → slice_get (terms_of hs) n ≡ Some h.term
at_number hs n h e = term_at_number hs n ∙ ap (option_map (λ (h : HashedTerm). h.term)) e

pub stored_is : (k : RandomState) (t : Term) (h : HashedTerm) → eq-hashed.it (hashed k t) h ≡ true → t ≡ h.term
stored_is k t h e = same_term t h.term (and_parts _ _ e).1
