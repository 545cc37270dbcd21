-- Where a result is put among those in order: that of the first start node is the first of its hash.
use Rattle.std.proofs.Common.{Bool, List, [], ap, append_assoc, arith, cond, false, filter, inl, inr, refl, subst, suc, sym, true, true≢false, zero, ℕ, ◌++◌, ◌<◌, ◌∙◌, ◌∷◌, ◌≡◌, ◌⊎◌}
use Rattle.std.proofs.lemmas.Bool.{cases_eq, false_from_ne_true}
use Rattle.std.proofs.lemmas.List.Elements.{filter-append}
use Rattle.rdf_terms.proofs.Common.{In, from_In-filter, from_In-numbers_below, is_at_most, is_at_most-trans, numbers_below}
use Rattle.canon_model.specs.Allowed.{HashPathResult}
use Rattle.canon_model.specs.CountedRun.{insert_result}

-- ---- the first number that passes two tests

none_pass : (q : ℕ → Bool) (xs : List ℕ) → ((x : ℕ) → In x xs → q x ≡ false) → filter q xs ≡ []
none_pass q [] f = refl
none_pass q (x ∷ xs) f = ap (λ b. cond b (x ∷ filter q xs) (filter q xs)) (f x (inl refl)) ∙ none_pass q xs (λ y h. f y (inr h))

-- the numbers below n are those below k, and k, and others
numbers_below-split : (n k : ℕ) → k < n → (rest : List ℕ) × (numbers_below n ≡ numbers_below k ++ k ∷ rest)
numbers_below-split zero k h = absurd (omega (arith, h))
numbers_below-split (suc n) k h = by (cases_eq k n) (λ l. numbers_below-split n k l)
  where
    by : (k ≡ n) ⊎ (k ≡ n → ⊥) → (k < n → (rest : List ℕ) × (numbers_below n ≡ numbers_below k ++ k ∷ rest))
        → (rest : List ℕ) × (numbers_below (suc n) ≡ numbers_below k ++ k ∷ rest)
    by (inl e) ih = ([], ap (λ m. numbers_below m ++ m ∷ []) (sym e))
    by (inr ne) ih =
        let l : k < n = omega (arith, h, ne) in
        let r = ih l in
        (r.0 ++ n ∷ [], ap (λ xs. xs ++ n ∷ []) r.1 ∙ append_assoc (numbers_below k) (k ∷ r.0) (n ∷ []))

pub filter_two-first : (p q : ℕ → Bool) (n k : ℕ) → k < n → p k ≡ true → q k ≡ true → ((j : ℕ) → j < k → q j ≡ false)
    → (rest : List ℕ) × (filter q (filter p (numbers_below n)) ≡ k ∷ rest)
filter_two-first p q n k h pk qk below =
    let r = numbers_below-split n k h in
    let front : filter q (filter p (numbers_below k)) ≡ [] = none_pass q (filter p (numbers_below k))
    (λ x i. below x (from_In-numbers_below k x (from_In-filter p x (numbers_below k) i).0)) in
    let here : filter q (filter p (k ∷ r.0)) ≡ k ∷ filter q (filter p r.0) = ap (λ b. filter q (cond b (k ∷ filter p r.0) (filter p r.0))) pk
    ∙ ap (λ b. cond b (k ∷ filter q (filter p r.0)) (filter q (filter p r.0))) qk in (
      filter q (filter p r.0),
      ap (λ xs. filter q (filter p xs)) r.1 ∙ ap (filter q) (filter-append p (numbers_below k) (k ∷ r.0))
          ∙ filter-append q (filter p (numbers_below k)) (filter p (k ∷ r.0)) ∙ (λ i. front i ++ here i),
    )

-- ---- the result that is put in order last

-- it stands behind those of lesser hash alone
pub record Put (r : HashPathResult) (qs : List HashPathResult) : Type 0 where
  pub lesser : List HashPathResult
  pub others : List HashPathResult
  pub was : qs ≡ lesser ++ others
  pub is : insert_result r qs ≡ lesser ++ r ∷ others
  pub are_lesser : (q : HashPathResult) → In q lesser → is_at_most r.hash q.hash ≡ false

pub put : (r : HashPathResult) (qs : List HashPathResult) → Put r qs
put r [] = record { lesser = []; others = []; was = refl; is = refl; are_lesser = λ q h. absurd h }
put r (q ∷ qs) = by (is_at_most r.hash q.hash) refl (put r qs)
  where
    by : (t : Bool) → is_at_most r.hash q.hash ≡ t → Put r qs → Put r (q ∷ qs)
    by true e u = record { lesser = []; others = q ∷ qs; was = refl; is = ap (λ t. cond t (r ∷ q ∷ qs) (q ∷ insert_result r qs)) e; are_lesser = λ p h. absurd h }
    by false e u = record {
      lesser = q ∷ u.lesser;
      others = u.others;
      was = ap (λ w. q ∷ w) u.was;
      is = ap (λ t. cond t (r ∷ q ∷ qs) (q ∷ insert_result r qs)) e ∙ ap (λ w. q ∷ w) u.is;
      are_lesser = λ p. elim [
        | inl h ↦ subst (λ (w : HashPathResult). is_at_most r.hash w.hash ≡ false) (sym h) e
        | inr h ↦ u.are_lesser p h
      ];
    }

-- a result, and another of no lesser hash, each put among the same: those between them stand behind the one and before the other
pub record PutBoth (r s : HashPathResult) (qs : List HashPathResult) : Type 0 where
  pub lesser : List HashPathResult
  pub between : List HashPathResult
  pub others : List HashPathResult
  pub was : qs ≡ (lesser ++ between) ++ others
  pub one : insert_result r qs ≡ lesser ++ r ∷ (between ++ others)
  pub other : insert_result s qs ≡ (lesser ++ between) ++ s ∷ others
  pub are_lesser : (q : HashPathResult) → In q (lesser ++ between) → is_at_most s.hash q.hash ≡ false

pub put_both : (r s : HashPathResult) → is_at_most r.hash s.hash ≡ true → (qs : List HashPathResult) → PutBoth r s qs
put_both r s h [] = record { lesser = []; between = []; others = []; was = refl; one = refl; other = refl; are_lesser = λ q i. absurd i }
put_both r s h (q ∷ qs) = by (is_at_most r.hash q.hash) refl (put s (q ∷ qs)) (put_both r s h qs)
  where
    by : (t : Bool) → is_at_most r.hash q.hash ≡ t → Put s (q ∷ qs) → PutBoth r s qs → PutBoth r s (q ∷ qs)
    by true e p u = record {
      lesser = [];
      between = p.lesser;
      others = p.others;
      was = p.was;
      one = ap (λ t. cond t (r ∷ q ∷ qs) (q ∷ insert_result r qs)) e ∙ ap (λ w. r ∷ w) p.was;
      other = p.is;
      are_lesser = p.are_lesser;
    }
    by false e p u =
        let above : is_at_most s.hash q.hash ≡ false = false_from_ne_true (is_at_most s.hash q.hash) (λ g. true≢false (sym (is_at_most-trans r.hash s.hash q.hash h g) ∙ e)) in
        record {
          lesser = q ∷ u.lesser;
          between = u.between;
          others = u.others;
          was = ap (λ w. q ∷ w) u.was;
          one = ap (λ t. cond t (r ∷ q ∷ qs) (q ∷ insert_result r qs)) e ∙ ap (λ w. q ∷ w) u.one;
          other = ap (λ t. cond t (s ∷ q ∷ qs) (q ∷ insert_result s qs)) above ∙ ap (λ w. q ∷ w) u.other;
          are_lesser = λ p. elim [
            | inl k ↦ subst (λ (w : HashPathResult). is_at_most s.hash w.hash ≡ false) (sym k) above
            | inr k ↦ u.are_lesser p k
          ];
        }
