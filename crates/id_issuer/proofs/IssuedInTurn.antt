-- Nodes that have no identifier yet are issued for in turn.
use Rattle.std.proofs.Common.{Bool, List, None, Option, Some, [], ap, cond, eqb, eqb-true, false, inl, inr, is_some, refl, subst, sym, true, ℕ, ◌++◌, ◌∙◌, ◌∷◌, ◌≡◌, append_assoc}
use Rattle.rdf_terms.proofs.Common.{after_first, place_of, AreDistinct, In, absent_before}
use Rattle.id_issuer.specs.IssuedList.{list_with}

is_some-after_first : (p : Option ℕ) → is_some (after_first p) ≡ is_some p
is_some-after_first None = refl
is_some-after_first (Some k) = refl

no_place : (l : List ℕ) (n : ℕ) → ¬ (In n l) → is_some (place_of l n) ≡ false
no_place [] n h = refl
no_place (x ∷ l) n h = by (eqb x n) refl (no_place l n (λ m. h (inr m)))
  where
    by : (b : Bool) → eqb x n ≡ b → is_some (place_of l n) ≡ false → is_some (place_of (x ∷ l) n) ≡ false
    by true e later = let same : n ≡ x = sym (eqb-true x n e) in absurd (h (inl same))
    by false e later = ap (λ b. is_some (cond b (Some 0) (after_first (place_of l n)))) e ∙ is_some-after_first (place_of l n) ∙ later

-- the next of them goes last
pub issued-next : (l rest all u : List ℕ) (n : ℕ) → l ++ n ∷ rest ≡ all → AreDistinct all → u ≡ list_with l n → u ++ rest ≡ all
issued-next l rest all u n e d is =
    let new : list_with l n ≡ l ++ n ∷ [] = ap (λ b. cond b l (l ++ n ∷ [])) (no_place l n (absent_before l rest n (subst AreDistinct (sym e) d))) in
    ap (λ v. v ++ rest) (is ∙ new) ∙ append_assoc l (n ∷ []) rest ∙ e
