-- The lexicographic order of lists of numbers, element by element.
use Rattle.std.proofs.Common.{◌≡◌, ℕ, ◌<◌, true, not, ◌⊎◌, List, [], ◌∷◌, inl, inr, refl, sym, ap, ◌∙◌, subst, arith, true≢false}
use Rattle.std.proofs.lemmas.Bool.Decides.{nat_tests}
use Rattle.std.specs.Cmp.Lexicographic.{slice_cmp}
use Rattle.std.specs.Ordering.{nat_cmp, is_gt, is_lt, ordering_then}
use Rattle.std.specs.declared.cmp.Ordering.TheVariants.{Less, Equal, Greater}
use Rattle.rdf_terms.proofs.Common.{is_at_most-refl, is_before, is_at_most}

-- at the first place where they differ, the first list has the lower number; or it is the front of the other
abbrev pub Below : List ℕ → List ℕ → Type 0
Below xs [] = ⊥
Below [] (y ∷ ys) = Unit {0}
Below (x ∷ xs) (y ∷ ys) = (x < y) ⊎ ((x ≡ y) × Below xs ys)

pub three : (x y : ℕ) → (x < y) ⊎ ((x ≡ y) ⊎ (y < x))
three x y = grind arith

less : (x y : ℕ) → x < y → nat_cmp x y ≡ Less
less x y h = grind (arith, nat_tests)

same : (x y : ℕ) → x ≡ y → nat_cmp x y ≡ Equal
same x y h = grind (arith, nat_tests)

more : (x y : ℕ) → y < x → nat_cmp x y ≡ Greater
more x y h = grind (arith, nat_tests)

pub is_before-Below : (xs ys : List ℕ) → Below xs ys → is_before xs ys ≡ true
is_before-Below xs [] h = absurd h
is_before-Below [] (y ∷ ys) h = refl
is_before-Below (x ∷ xs) (y ∷ ys) (inl l) = ap (λ o. is_lt (ordering_then o (slice_cmp nat_cmp xs ys))) (less x y l)
is_before-Below (x ∷ xs) (y ∷ ys) (inr h) = ap (λ o. is_lt (ordering_then o (slice_cmp nat_cmp xs ys))) (same x y h.0) ∙ is_before-Below xs ys h.1

pub Below-is_before : (xs ys : List ℕ) → is_before xs ys ≡ true → Below xs ys
Below-is_before [] [] h = absurd (true≢false (sym h))
Below-is_before (x ∷ xs) [] h = absurd (true≢false (sym h))
Below-is_before [] (y ∷ ys) h = tt
Below-is_before (x ∷ xs) (y ∷ ys) h = by (three x y) h (Below-is_before xs ys)
  where
    by : (x < y) ⊎ ((x ≡ y) ⊎ (y < x)) → is_lt (ordering_then (nat_cmp x y) (slice_cmp nat_cmp xs ys)) ≡ true → (is_before xs ys ≡ true → Below xs ys) → Below (x ∷ xs) (y ∷ ys)
    by (inl l) h ih = inl l
    by (inr (inl e)) h ih = inr (e, ih (sym (ap (λ o. is_lt (ordering_then o (slice_cmp nat_cmp xs ys))) (same x y e)) ∙ h))
    by (inr (inr g)) h ih = absurd (true≢false (sym h ∙ ap (λ o. is_lt (ordering_then o (slice_cmp nat_cmp xs ys))) (more x y g)))

pub is_at_most-Below : (xs ys : List ℕ) → Below xs ys → is_at_most xs ys ≡ true
is_at_most-Below xs [] h = absurd h
is_at_most-Below [] (y ∷ ys) h = refl
is_at_most-Below (x ∷ xs) (y ∷ ys) (inl l) = ap (λ o. not (is_gt (ordering_then o (slice_cmp nat_cmp xs ys)))) (less x y l)
is_at_most-Below (x ∷ xs) (y ∷ ys) (inr h) = ap (λ o. not (is_gt (ordering_then o (slice_cmp nat_cmp xs ys)))) (same x y h.0) ∙ is_at_most-Below xs ys h.1

-- equal or below
abbrev pub AtMost : List ℕ → List ℕ → Type 0
AtMost xs ys = (xs ≡ ys) ⊎ Below xs ys

pub is_at_most-AtMost : (xs ys : List ℕ) → AtMost xs ys → is_at_most xs ys ≡ true
is_at_most-AtMost xs ys (inl e) = subst (λ zs. is_at_most xs zs ≡ true) e (is_at_most-refl xs)
is_at_most-AtMost xs ys (inr h) = is_at_most-Below xs ys h

pub AtMost-cons : (x : ℕ) (xs ys : List ℕ) → AtMost xs ys → AtMost (x ∷ xs) (x ∷ ys)
AtMost-cons x xs ys (inl e) = inl (ap (λ zs. x ∷ zs) e)
AtMost-cons x xs ys (inr h) = inr (inr (refl, h))

pub AtMost-is_at_most : (xs ys : List ℕ) → is_at_most xs ys ≡ true → AtMost xs ys
AtMost-is_at_most [] [] h = inl refl
AtMost-is_at_most (x ∷ xs) [] h = absurd (true≢false (sym h))
AtMost-is_at_most [] (y ∷ ys) h = inr tt
AtMost-is_at_most (x ∷ xs) (y ∷ ys) h = by (three x y) h (AtMost-is_at_most xs ys)
  where
    by : (x < y) ⊎ ((x ≡ y) ⊎ (y < x)) → not (is_gt (ordering_then (nat_cmp x y) (slice_cmp nat_cmp xs ys))) ≡ true → (is_at_most xs ys ≡ true → AtMost xs ys) → AtMost (x ∷ xs) (y ∷ ys)
    by (inl l) h ih = inr (inl l)
    by (inr (inl e)) h ih = subst (λ z. AtMost (x ∷ xs) (z ∷ ys)) e (AtMost-cons x xs ys (ih (sym (ap (λ o. not (is_gt (ordering_then o (slice_cmp nat_cmp xs ys)))) (same x y e)) ∙ h)))
    by (inr (inr g)) h ih = absurd (true≢false (sym h ∙ ap (λ o. not (is_gt (ordering_then o (slice_cmp nat_cmp xs ys)))) (more x y g)))

pub Below-trans : (xs ys zs : List ℕ) → Below xs ys → Below ys zs → Below xs zs
Below-trans xs ys [] h g = absurd g
Below-trans xs [] (z ∷ zs) h g = absurd h
Below-trans [] (y ∷ ys) (z ∷ zs) h g = tt
Below-trans (x ∷ xs) (y ∷ ys) (z ∷ zs) (inl a) (inl b) = inl (omega arith)
Below-trans (x ∷ xs) (y ∷ ys) (z ∷ zs) (inl a) (inr b) = inl (omega (arith, b.0))
Below-trans (x ∷ xs) (y ∷ ys) (z ∷ zs) (inr a) (inl b) = inl (omega (arith, a.0))
Below-trans (x ∷ xs) (y ∷ ys) (z ∷ zs) (inr a) (inr b) = inr (a.0 ∙ b.0, Below-trans xs ys zs a.1 b.1)

pub Below-irreflexive : (xs : List ℕ) → ¬ (Below xs xs)
Below-irreflexive [] h = h
Below-irreflexive (x ∷ xs) (inl l) = omega arith
Below-irreflexive (x ∷ xs) (inr h) = Below-irreflexive xs h.1

pub Below-at_most : (xs ys zs : List ℕ) → Below xs ys → AtMost ys zs → Below xs zs
Below-at_most xs ys zs b (inl e) = subst (Below xs) e b
Below-at_most xs ys zs b (inr g) = Below-trans xs ys zs b g
