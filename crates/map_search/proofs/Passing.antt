-- One condition after the other moves a number on.
use Rattle.std.proofs.Common.{◌≡◌, ℕ, zero, suc, ◌+◌, ◌<◌, ◌≤◌, ◌⊎◌, Bool, true, false, List, [], ◌∷◌, length, take, get_or, refl, sym, ◌∙◌, subst, inl, inr, arith, true≢false}
use Rattle.std.specs.List.{list_all}
use Rattle.std.proofs.lemmas.List.Folds.{list_all_more, list_all_at}
use Rattle.std.proofs.lemmas.Bool.{and_parts, cases_lt}
use Rattle.map_search.specs.Maps.{IsNext, NoneFits}
use Rattle.map_search.specs.Rows.{meets_all}
use Rattle.std.specs.Cmp.Derive.{both_true}
use Rattle.map_search.specs.declared.rows.Condition.{Condition}

all_take : {X : Type 0} (p : X → Bool) (xs : List X) (i : ℕ) → list_all p xs ≡ true → list_all p (take i xs) ≡ true
all_take p xs zero h = refl
all_take p [] (suc i) h = refl
all_take p (x ∷ xs) (suc i) h = let b = and_parts (p x) (list_all p xs) h in both_true b.0 (all_take p xs i b.1)

all_at : {X : Type 0} (p : X → Bool) (xs : List X) (i : ℕ) (d : X) → i < length xs → list_all p xs ≡ true → p (get_or xs i d) ≡ true
all_at p xs i d l h = by (p (get_or xs i d)) refl
  where
    by : (b : Bool) → p (get_or xs i d) ≡ b → p (get_or xs i d) ≡ true
    by true e = e
    by false e = absurd (true≢false (sym h ∙ list_all_at p xs i d l e))

module _ (bound : ℕ) (meets : Condition → ℕ → Bool) (row : List Condition) (i : ℕ) (d : Condition) (within : i < length row) (from at : ℕ)
    (least : (s : ℕ) → from ≤ s → s < bound → meets_all meets (take i row) s ≡ true → at ≤ s) where
  pub none_passed : NoneFits bound (meets (get_or row i d)) at → NoneFits bound (meets_all meets row) from
  none_passed none s a b h = none s (least s a b (all_take (λ c. meets c s) row i h)) b (all_at (λ c. meets c s) row i d within h)

  module _ (next : ℕ) (n : IsNext bound (meets (get_or row i d)) at next) where
    pub least_on : (s : ℕ) → from ≤ s → s < bound → meets_all meets (take (i + 1) row) s ≡ true → next ≤ s
    least_on s a b h = by (cases_lt s next)
      where
        parts : (list_all (λ c. meets c s) (take i row) ≡ true) × (meets (get_or row i d) s ≡ true)
        parts = and_parts (list_all (λ c. meets c s) (take i row)) (meets (get_or row i d) s) (sym (list_all_more (λ c. meets c s) row i d within) ∙ h)

        by : (s < next) ⊎ (next ≤ s) → next ≤ s
        by (inl l) = absurd (n.least s (least s a b parts.0) l parts.1)
        by (inr l) = l

    pub stays_on : from ≤ at → (at ≡ from → meets_all meets (take i row) from ≡ true) → next ≡ from → meets_all meets (take (i + 1) row) from ≡ true
    stays_on behind stays e =
        let l : at ≤ next = n.behind in
        let same : at ≡ from = omega arith in
        let f : meets (get_or row i d) from ≡ true = subst (λ t. meets (get_or row i d) t ≡ true) e n.fit in
        list_all_more (λ c. meets c from) row i d within ∙ both_true (stays same) f
