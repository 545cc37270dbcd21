-- The order of entries.
use Rattle.std.proofs.Common.{◌≡◌, ℕ, ◌+◌, ◌<◌, ◌≤◌, ◌⊎◌, ◌==◌, Bool, true, false, ◌||◌, ◌&&◌, cond, List, length, Some, refl, sym, ap, ◌∙◌, subst, inl, inr, arith, true≢false, nat_lt, eq-eqb}
use Rattle.std.proofs.lemmas.Bool.{eqb-true, false_from_ne_true, ltb-true, lt-ltb}
use Rattle.std.proofs.lemmas.Bool.Decides.{nat_tests}
use Rattle.std.proofs.lemmas.Option.{slice_get-get_or, slice_get_within, get_or_from_slice_get}
use Rattle.std.specs.List.{slice_get}
use Rattle.std.specs.Ordering.{nat_cmp, ordering_then, is_lt}
use Rattle.std.specs.declared.cmp.Ordering.{Ordering}
use Rattle.std.specs.declared.cmp.Ordering.TheVariants.{Less, Equal, Greater}
use Rattle.std.specs.Cmp.{IsTotalOrder}
use Rattle.std.specs.List.Sorted.{IsSorted, IsPermutation}
use Rattle.std.proofs.lemmas.Cmp.{nat_cmp_total, then_total, on_total}
use Rattle.std.proofs.lemmas.List.Sorted.{ranks_by, sorted_far}
use Rattle.rdf_terms.proofs.Common.{In, AreDistinct, one_place, place_in, Permutes-from_IsPermutation, AreDistinct-Permutes}
use Rattle.map_search.specs.declared.table.Entry.{Entry}
use Rattle.map_search.specs.Table.{is_before, entry_at, no_entry, AreInOrder, IsStart}

pub step_of : (x y : ℕ) (r : Bool) → (nat_lt x y || ((x == y) && r)) ≡ true → (x < y) ⊎ ((x ≡ y) × (r ≡ true))
step_of x y r h = by (nat_lt x y) refl (x == y) refl h
  where
    by : (a : Bool) → nat_lt x y ≡ a → (b : Bool) → (x == y) ≡ b → (a || (b && r)) ≡ true → (x < y) ⊎ ((x ≡ y) × (r ≡ true))
    by true e b f h = inl (ltb-true x y e)
    by false e true f h = inr (eqb-true x y f, h)
    by false e false f h = absurd (true≢false (sym h))

or_right : (a b : Bool) → b ≡ true → (a || b) ≡ true
or_right true b e = refl
or_right false b e = e

or_left : (a b : Bool) → a ≡ true → (a || b) ≡ true
or_left a b e = rw e refl

pub of_step : (x y : ℕ) (r : Bool) → (x < y) ⊎ ((x ≡ y) × (r ≡ true)) → (nat_lt x y || ((x == y) && r)) ≡ true
of_step x y r (inl l) = or_left (nat_lt x y) ((x == y) && r) (lt-ltb x y l)
of_step x y r (inr p) = or_right (nat_lt x y) ((x == y) && r) (rw (eq-eqb x y p.0) p.1)

trans_step : (x y z : ℕ) (p q r : Bool) → (p ≡ true → q ≡ true → r ≡ true) → (nat_lt x y || ((x == y) && p)) ≡ true → (nat_lt y z || ((y == z) && q)) ≡ true → (nat_lt x z || ((x == z) && r)) ≡ true
trans_step x y z p q r t a b = of_step x z r (by (step_of x y p a) (step_of y z q b))
  where
    by : (x < y) ⊎ ((x ≡ y) × (p ≡ true)) → (y < z) ⊎ ((y ≡ z) × (q ≡ true)) → (x < z) ⊎ ((x ≡ z) × (r ≡ true))
    by (inl l) (inl m) = inl (omega arith)
    by (inl l) (inr e) = inl (let f = e.0 in omega arith)
    by (inr e) (inl m) = inl (let f = e.0 in omega arith)
    by (inr e) (inr f) = inr (e.0 ∙ f.0, t e.1 f.1)

last_step : (x y : ℕ) → nat_lt x y ≡ true → x < y
last_step x y e = ltb-true x y e

pub before-trans : (a b c : Entry) → is_before a b ≡ true → is_before b c ≡ true → is_before a c ≡ true
before-trans a b c =
    trans_step a.first b.first c.first _ _ _
    (trans_step a.second b.second c.second _ _ _
    (trans_step a.value b.value c.value _ _ _ (λ e f. lt-ltb a.quad c.quad (let x = last_step a.quad b.quad e in let y = last_step b.quad c.quad f in omega arith))))

itself_step : (x : ℕ) (r : Bool) → ¬ (r ≡ true) → ¬ ((nat_lt x x || ((x == x) && r)) ≡ true)
itself_step x r n h = elim (step_of x x r h) [ inl l ↦ omega arith | inr p ↦ n p.1 ]

pub before-itself : (a : Entry) → ¬ (is_before a a ≡ true)
before-itself a = itself_step a.first _ (itself_step a.second _ (itself_step a.value _ (λ e. (let l = last_step a.quad a.quad e in omega arith))))

-- neither is before the other
tied_step : (x y : ℕ) (p q : Bool) → (nat_lt x y || ((x == y) && p)) ≡ false → (nat_lt y x || ((y == x) && q)) ≡ false → (x ≡ y) × (p ≡ false) × (q ≡ false)
tied_step x y p q h k =
    let e : x ≡ y = three x y (λ l. true≢false (sym (of_step x y p (inl l)) ∙ h)) (λ l. true≢false (sym (of_step y x q (inl l)) ∙ k)) in
    (e, false_from_ne_true p (λ f. true≢false (sym (of_step x y p (inr (e, f))) ∙ h)), false_from_ne_true q (λ f. true≢false (sym (of_step y x q (inr (sym e, f))) ∙ k)))
  where
    three : (x y : ℕ) → (¬ (x < y)) → (¬ (y < x)) → x ≡ y
    three x y n m = grind arith

pub tied : (a b : Entry) → is_before a b ≡ false → is_before b a ≡ false → a ≡ b
tied a b h k =
    let x = tied_step a.first b.first _ _ h k in
    let y = tied_step a.second b.second _ _ x.1 x.2 in
    let z = tied_step a.value b.value _ _ y.1 y.2 in
    let q : a.quad ≡ b.quad = last a.quad b.quad z.1 z.2 in
    let f : a.first ≡ b.first = x.0 in
    let s : a.second ≡ b.second = y.0 in
    let v : a.value ≡ b.value = z.0 in
    λ i. record { first = f i; second = s i; value = v i; quad = q i }
  where
    last : (x y : ℕ) → nat_lt x y ≡ false → nat_lt y x ≡ false → x ≡ y
    last x y e f = grind (arith, nat_tests)

-- ---- a sort puts them in order

entry_cmp : Entry → Entry → Ordering
entry_cmp a b = ordering_then (nat_cmp a.first b.first) (ordering_then (nat_cmp a.second b.second) (ordering_then (nat_cmp a.value b.value) (nat_cmp a.quad b.quad)))

total : IsTotalOrder entry_cmp
unfolding entry_cmp
total = then_total (on_total (λ (e : Entry). e.first) nat_cmp_total)
    (then_total (on_total (λ (e : Entry). e.second) nat_cmp_total) (then_total (on_total (λ (e : Entry). e.value) nat_cmp_total) (on_total (λ (e : Entry). e.quad) nat_cmp_total)))

lt_then : (x y : ℕ) (o : Ordering) → is_lt (ordering_then (nat_cmp x y) o) ≡ (nat_lt x y || ((x == y) && is_lt o))
lt_then x y o = by (nat_lt x y) (x == y)
  where
    by : (a b : Bool) → is_lt (ordering_then (cond a Less (cond b Equal Greater)) o) ≡ (a || (b && is_lt o))
    by true b = refl
    by false true = refl
    by false false = refl

lt_last : (x y : ℕ) → is_lt (nat_cmp x y) ≡ nat_lt x y
lt_last x y = by (nat_lt x y) (x == y)
  where
    by : (a b : Bool) → is_lt (cond a Less (cond b Equal Greater)) ≡ a
    by true b = refl
    by false true = refl
    by false false = refl

lt_is_before : (a b : Entry) → is_lt (entry_cmp a b) ≡ is_before a b
unfolding entry_cmp
lt_is_before a b =
    lt_then a.first b.first _ ∙ ap (λ r. nat_lt a.first b.first || ((a.first == b.first) && r))
    (lt_then a.second b.second _ ∙ ap (λ r. nat_lt a.second b.second || ((a.second == b.second) && r))
    (lt_then a.value b.value _ ∙ ap (λ r. nat_lt a.value b.value || ((a.value == b.value) && r)) (lt_last a.quad b.quad)))

pub one_index : (xs : List Entry) (i j : ℕ) → AreDistinct xs → i < length xs → j < length xs → entry_at xs i ≡ entry_at xs j → i ≡ j
one_index xs i j d l m e = one_place xs i j (entry_at xs i) d (slice_get-get_or xs i no_entry l) (slice_get-get_or xs j no_entry m ∙ ap Some (sym e))

pub in_order : (before xs : List Entry) → AreDistinct before → IsPermutation before xs
    → IsSorted (λ a b. ordering_then (nat_cmp a.first b.first) (ordering_then (nat_cmp a.second b.second) (ordering_then (nat_cmp a.value b.value) (nat_cmp a.quad b.quad)))) xs → AreInOrder xs
unfolding entry_cmp
in_order before xs once permutes sorted i j l m = by (is_before (entry_at xs i) (entry_at xs j)) refl
  where
    distinct : AreDistinct xs
    distinct = AreDistinct-Permutes (Permutes-from_IsPermutation before xs permutes) once

    not_after : is_before (entry_at xs j) (entry_at xs i) ≡ false
    not_after = sym (lt_is_before (entry_at xs j) (entry_at xs i)) ∙ sorted_far (λ a b. is_lt (entry_cmp a b)) (ranks_by total (λ e. e)) xs sorted i j no_entry (omega arith) m

    by : (b : Bool) → is_before (entry_at xs i) (entry_at xs j) ≡ b → is_before (entry_at xs i) (entry_at xs j) ≡ true
    by true e = e
    by false e = absurd (let s = one_index xs i j distinct (omega arith) m (tied (entry_at xs i) (entry_at xs j) e not_after) in omega arith)

-- ---- by halving

module _ (xs : List Entry) (order : AreInOrder xs) (sought : Entry) where
  le_cases : (k m : ℕ) → k ≤ m → (k < m) ⊎ (k ≡ m)
  le_cases k m l = grind arith

  pub more_before : (m : ℕ) → m < length xs → is_before (entry_at xs m) sought ≡ true → (k : ℕ) → k < m + 1 → is_before (entry_at xs k) sought ≡ true
  more_before m l e k b = elim (le_cases k m (omega arith)) [ inl c ↦ before-trans (entry_at xs k) (entry_at xs m) sought (order k m c l) e | inr s ↦ ap (λ w. is_before (entry_at xs w) sought) s ∙ e ]

  pub more_behind : (m : ℕ) → is_before (entry_at xs m) sought ≡ false → (k : ℕ) → m ≤ k → k < length xs → is_before (entry_at xs k) sought ≡ false
  more_behind m e k b l = elim (le_cases m k b) [ inl c ↦ by (is_before (entry_at xs k) sought) refl c | inr s ↦ ap (λ w. is_before (entry_at xs w) sought) (sym s) ∙ e ]
    where
      by : (b : Bool) → is_before (entry_at xs k) sought ≡ b → m < k → is_before (entry_at xs k) sought ≡ false
      by true f c = absurd (true≢false (sym (before-trans (entry_at xs m) (entry_at xs k) sought (order m k c l) f) ∙ e))
      by false f c = f

  -- an entry that is there is the one at the start
  pub start_is : (p : ℕ) → IsStart xs sought p → In sought xs → (p < length xs) × (entry_at xs p ≡ sought)
  start_is p s there = by (place_in xs sought there)
    where
      at_place : (j : ℕ) → j < length xs → entry_at xs j ≡ sought → (p < length xs) × (entry_at xs p ≡ sought)
      at_place j l e =
          elim (le_or p j) [
            | inl b ↦ elim (le_cases p j b) [
              | inl c ↦ absurd
                  (true≢false (sym (subst (λ w. is_before (entry_at xs p) w ≡ true) e (order p j c l)) ∙ s.behind p (omega arith) (omega arith)))
              | inr f ↦ (
                subst (λ w. w < length xs) (sym f) l,
                ap
                    (entry_at xs) f ∙ e,
              )
            ]
            | inr b ↦ absurd (before-itself sought (subst (λ w. is_before w sought ≡ true) e (s.before j b)))
          ]
        where
          le_or : (a b : ℕ) → (a ≤ b) ⊎ (b < a)
          le_or a b = grind arith

      by : (k : ℕ) × (slice_get xs k ≡ Some sought) → (p < length xs) × (entry_at xs p ≡ sought)
      by r = at_place r.0 (slice_get_within xs r.0 sought r.1) (get_or_from_slice_get xs r.0 sought no_entry r.1)

  pub once : (i j : ℕ) → i < length xs → j < length xs → entry_at xs i ≡ entry_at xs j → i ≡ j
  once i j l m e = three (apart i j m e) (apart j i l (sym e))
    where
      apart : (a b : ℕ) → b < length xs → entry_at xs a ≡ entry_at xs b → ¬ (a < b)
      apart a b m e l = before-itself (entry_at xs b) (subst (λ w. is_before w (entry_at xs b) ≡ true) e (order a b l m))

      three : (¬ (i < j)) → (¬ (j < i)) → i ≡ j
      three n m = grind arith
