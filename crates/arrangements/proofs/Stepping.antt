-- How the next arrangement is made: one node goes up at the last rise, and what stands behind it ascends.
use Rattle.std.proofs.Common.{◌≡◌, ℕ, zero, suc, ◌+◌, ◌<◌, ◌≤◌, ◌⊎◌, List, [], ◌∷◌, ◌++◌, length, get_or, set, reverse, swap, take, drop, add-one, inl, inr, refl, sym, subst, arith}
use Rattle.std.specs.List.Sorted.{IsNonDecreasing}
use Rattle.std.proofs.lemmas.List.Edits.{swap_is}
use mathlib.Core.List.{reverse-cons}
use Rattle.rdf_terms.proofs.Common.{In, Permutes, permutes_cons, permutes_trans, Permutes-sym, In-Permutes, length-Permutes, In-append, In-get_or, place_within}
use Rattle.arrangements.specs.Arrangements.{IsFirst, IsLast, IsNext}
use Rattle.arrangements.specs.Falling.{FallsFrom, IsLastRise, IsLastAbove}
use Rattle.arrangements.proofs.Permuting.{Permutes-rest, Permutes-reverse, traded}
use Rattle.arrangements.proofs.Order.{Below, AtMost, AtMost-cons, three, is_before-Below, Below-is_before, is_at_most-AtMost, AtMost-is_at_most, Below-trans, Below-irreflexive}

-- ---- lists that fall or climb

abbrev pub Falls : List ℕ → Type 0
Falls [] = Unit {0}
Falls (x ∷ xs) = ((y : ℕ) → In y xs → y ≤ x) × Falls xs

abbrev pub Climbs : List ℕ → Type 0
Climbs [] = Unit {0}
Climbs (x ∷ xs) = ((y : ℕ) → In y xs → x ≤ y) × Climbs xs

-- the other arrangement has the head's number or another of the list in front
head_of : (x z : ℕ) (xs zs : List ℕ) → Permutes (x ∷ xs) (z ∷ zs) → (z ≡ x) ⊎ In z xs
head_of x z xs zs p = In-Permutes z (Permutes-sym p) (inl refl)

head_at_most : (x z : ℕ) (xs : List ℕ) → ((y : ℕ) → In y xs → y ≤ x) → (z ≡ x) ⊎ In z xs → z ≤ x
head_at_most x z xs le (inl e) = omega arith
head_at_most x z xs le (inr h) = le z h

head_at_least : (x z : ℕ) (xs : List ℕ) → ((y : ℕ) → In y xs → x ≤ y) → (z ≡ x) ⊎ In z xs → x ≤ z
head_at_least x z xs le (inl e) = omega arith
head_at_least x z xs le (inr h) = le z h

same_head : (x z : ℕ) (xs zs : List ℕ) → z ≡ x → Permutes (x ∷ xs) (z ∷ zs) → Permutes xs zs
same_head x z xs zs e p = Permutes-rest x (subst (λ w. Permutes (x ∷ xs) (w ∷ zs)) e p)

falls_last : (xs zs : List ℕ) → Falls xs → Permutes xs zs → AtMost zs xs
falls_last [] [] f p = inl refl
falls_last [] (z ∷ zs) f p = let e = length-Permutes p in absurd (omega arith)
falls_last (x ∷ xs) [] f p = let e = length-Permutes p in absurd (omega arith)
falls_last (x ∷ xs) (z ∷ zs) f p = by (three z x) (falls_last xs zs f.1)
  where
    by : (z < x) ⊎ ((z ≡ x) ⊎ (x < z)) → (Permutes xs zs → AtMost zs xs) → AtMost (z ∷ zs) (x ∷ xs)
    by (inl l) ih = inr (inl l)
    by (inr (inl e)) ih = subst (λ w. AtMost (w ∷ zs) (x ∷ xs)) (sym e) (AtMost-cons x zs xs (ih (same_head x z xs zs e p)))
    by (inr (inr g)) ih = let le = head_at_most x z xs f.0 (head_of x z xs zs p) in absurd (omega arith)

climbs_first : (xs zs : List ℕ) → Climbs xs → Permutes xs zs → AtMost xs zs
climbs_first [] [] f p = inl refl
climbs_first [] (z ∷ zs) f p = let e = length-Permutes p in absurd (omega arith)
climbs_first (x ∷ xs) [] f p = let e = length-Permutes p in absurd (omega arith)
climbs_first (x ∷ xs) (z ∷ zs) f p = by (three z x) (climbs_first xs zs f.1)
  where
    by : (z < x) ⊎ ((z ≡ x) ⊎ (x < z)) → (Permutes xs zs → AtMost xs zs) → AtMost (x ∷ xs) (z ∷ zs)
    by (inr (inr g)) ih = inr (inl g)
    by (inr (inl e)) ih = subst (λ w. AtMost (x ∷ xs) (w ∷ zs)) (sym e) (AtMost-cons x xs zs (ih (same_head x z xs zs e p)))
    by (inl l) ih = let le = head_at_least x z xs f.0 (head_of x z xs zs p) in absurd (omega arith)

-- ---- turning round

climbs_push : (xs : List ℕ) (x : ℕ) → Climbs xs → ((y : ℕ) → In y xs → y ≤ x) → Climbs (xs ++ x ∷ [])
climbs_push [] x c le = (λ y h. absurd h, tt)
climbs_push (z ∷ xs) x c le = (λ y h. by y (In-append xs (x ∷ []) y h), climbs_push xs x c.1 (λ y h. le y (inr h)))
  where
    by : (y : ℕ) → In y xs ⊎ In y (x ∷ []) → z ≤ y
    by y (inl i) = c.0 y i
    by y (inr (inl e)) = let l = le z (inl refl) in omega arith
    by y (inr (inr h)) = absurd h

climbs_reverse : (xs : List ℕ) → Falls xs → Climbs (reverse xs)
climbs_reverse [] f = tt
climbs_reverse (x ∷ xs) f =
    subst Climbs (sym (reverse-cons x xs)) (climbs_push (reverse xs) x (climbs_reverse xs f.1) (λ y h. f.0 y (In-Permutes y (Permutes-sym (Permutes-reverse xs)) h)))

-- ---- members and places

In-set : (z : ℕ) (xs : List ℕ) (j x : ℕ) → In z (set xs j x) → In z xs ⊎ (z ≡ x)
In-set z [] j x h = absurd h
In-set z (y ∷ xs) zero x (inl e) = inr e
In-set z (y ∷ xs) zero x (inr h) = inl (inr h)
In-set z (y ∷ xs) (suc j) x (inl e) = inl (inl e)
In-set z (y ∷ xs) (suc j) x (inr h) = by (In-set z xs j x h)
  where
    by : In z xs ⊎ (z ≡ x) → In z (y ∷ xs) ⊎ (z ≡ x)
    by (inl i) = inl (inr i)
    by (inr e) = inr e

falls_along : (xs : List ℕ) (i j : ℕ) → Falls xs → i ≤ j → j < length xs → get_or xs j 0 ≤ get_or xs i 0
falls_along [] i j f le h = absurd (omega arith)
falls_along (x ∷ xs) zero zero f le h = omega arith
falls_along (x ∷ xs) zero (suc j) f le h = f.0 (get_or xs j 0) (In-get_or xs j 0 (omega arith))
falls_along (x ∷ xs) (suc i) zero f le h = absurd (omega arith)
falls_along (x ∷ xs) (suc i) (suc j) f le h = falls_along xs i j f.1 (omega arith) (omega arith)

order : (k j : ℕ) → (k ≤ j) ⊎ (j < k)
order k j = grind arith

-- a list where no number is below the one after it
falls_from_steps : (xs : List ℕ) → ((k : ℕ) → suc k < length xs → get_or xs (suc k) 0 ≤ get_or xs k 0) → Falls xs
falls_from_steps [] h = tt
falls_from_steps (x ∷ []) h = (λ y i. absurd i, tt)
falls_from_steps (x ∷ y ∷ xs) h = onto (falls_from_steps (y ∷ xs) (λ k l. h (suc k) (omega arith)))
  where
    by : Falls (y ∷ xs) → (z : ℕ) → In z (y ∷ xs) → z ≤ x
    by rest z (inl e) = let l = h 0 (omega arith) in omega arith
    by rest z (inr i) = let l = h 0 (omega arith) in let m = rest.0 z i in omega (arith, m)

    onto : Falls (y ∷ xs) → Falls (x ∷ y ∷ xs)
    onto rest = (by rest, rest)

-- ---- a step at the front

-- the place j parts what is at least y from what is at most x, and y is above x
pub record Parts (x : ℕ) (xs : List ℕ) (j : ℕ) : Type 0 where
  pub within : j < length xs
  pub above : x < get_or xs j 0
  pub falls : Falls xs
  pub rest : (k : ℕ) → j < k → k < length xs → get_or xs k 0 ≤ x

falls_with : (x : ℕ) (xs : List ℕ) (j : ℕ) → Parts x xs j → Falls (set xs j x)
falls_with x [] j p = let w = p.within in absurd (omega arith)
falls_with x (y ∷ xs) zero p = (λ z h. below z (place_within xs z 0 h), p.falls.1)
  where
    below : (z : ℕ) → (k : ℕ) × (k < length xs) × (get_or xs k 0 ≡ z) → z ≤ x
    below z c = let l = p.rest (suc c.0) (omega arith) (omega arith) in omega arith
falls_with x (y ∷ xs) (suc j) p =
    (λ z h. below z (In-set z xs j x h), falls_with x xs j record { within = omega (arith, p.within); above = p.above; falls = p.falls.1; rest = λ k a b. p.rest (suc k) (omega arith) (omega arith) })
  where
    there : In (get_or xs j 0) xs
    there = In-get_or xs j 0 (omega (arith, p.within))

    below : (z : ℕ) → In z xs ⊎ (z ≡ x) → z ≤ y
    below z (inl h) = p.falls.0 z h
    below z (inr e) = let a = p.above in let b = p.falls.0 (get_or xs j 0) there in omega arith

-- the arrangement after one that begins with x, where the rest falls and one of it is above x
at_front : (x : ℕ) (xs : List ℕ) (j : ℕ) → Parts x xs j → IsNext (x ∷ xs) (get_or xs j 0 ∷ reverse (set xs j x))
at_front x xs j p = record {
  permutes = moved;
  behind = is_before-Below (x ∷ xs) (get_or xs j 0 ∷ reverse (set xs j x)) (inl p.above);
  least = λ zs q h. is_at_most-AtMost (get_or xs j 0 ∷ reverse (set xs j x)) zs (least zs q (Below-is_before (x ∷ xs) zs h));
}
  where
    moved : Permutes (x ∷ xs) (get_or xs j 0 ∷ reverse (set xs j x))
    moved = permutes_trans (traded 0 x xs j p.within) (permutes_cons (Permutes-reverse (set xs j x)))

    -- a number of the rest that is above x is at least the one at j
    at_least : (z k : ℕ) → k < length xs → get_or xs k 0 ≡ z → x < z → get_or xs j 0 ≤ z
    at_least z k l e h = by (order k j)
      where
        by : (k ≤ j) ⊎ (j < k) → get_or xs j 0 ≤ z
        by (inl le) = let f = falls_along xs k j p.falls le p.within in omega arith
        by (inr gt) = let r = p.rest k gt l in absurd (omega arith)

    least : (zs : List ℕ) → Permutes (x ∷ xs) zs → Below (x ∷ xs) zs → AtMost (get_or xs j 0 ∷ reverse (set xs j x)) zs
    least [] q h = absurd h
    least (z ∷ zs) q (inr h) = absurd (not_behind (falls_last xs zs p.falls (same_head x z xs zs (sym h.0) q)))
      where
        not_behind : AtMost zs xs → ⊥
        not_behind (inl e) = Below-irreflexive xs (subst (Below xs) e h.1)
        not_behind (inr g) = Below-irreflexive xs (Below-trans xs zs xs h.1 g)
    least (z ∷ zs) q (inl h) = by (three (get_or xs j 0) z)
      where
        above : get_or xs j 0 ≤ z
        above = from (head_of x z xs zs q)
          where
            from : (z ≡ x) ⊎ In z xs → get_or xs j 0 ≤ z
            from (inl e) = absurd (omega arith)
            from (inr i) = let r = place_within xs z 0 i in at_least z r.0 r.1 r.2 h

        by : (get_or xs j 0 < z) ⊎ ((get_or xs j 0 ≡ z) ⊎ (z < get_or xs j 0)) → AtMost (get_or xs j 0 ∷ reverse (set xs j x)) (z ∷ zs)
        by (inl l) = inr (inl l)
        by (inr (inl e)) =
            subst (λ w. AtMost (get_or xs j 0 ∷ reverse (set xs j x)) (w ∷ zs)) e
            (AtMost-cons (get_or xs j 0) (reverse (set xs j x)) zs
            (climbs_first (reverse (set xs j x)) zs (climbs_reverse (set xs j x) (falls_with x xs j p))
            (same_head (get_or xs j 0) z (reverse (set xs j x)) zs (sym e) (permutes_trans (Permutes-sym moved) q))))
        by (inr (inr g)) = let a = above in absurd (omega (arith, a))

-- ---- a step behind a common front

IsNext-cons : (x : ℕ) (xs ys : List ℕ) → IsNext xs ys → IsNext (x ∷ xs) (x ∷ ys)
IsNext-cons x xs ys n = record {
  permutes = permutes_cons n.permutes;
  behind = is_before-Below (x ∷ xs) (x ∷ ys) (inr (refl, Below-is_before xs ys n.behind));
  least = λ zs q h. is_at_most-AtMost (x ∷ ys) zs (least zs q (Below-is_before (x ∷ xs) zs h));
}
  where
    least : (zs : List ℕ) → Permutes (x ∷ xs) zs → Below (x ∷ xs) zs → AtMost (x ∷ ys) zs
    least [] q h = absurd h
    least (z ∷ zs) q (inl l) = inr (inl l)
    least (z ∷ zs) q (inr h) = subst (λ w. AtMost (x ∷ ys) (w ∷ zs)) h.0 (AtMost-cons x ys zs (AtMost-is_at_most ys zs (n.least zs (same_head x z xs zs (sym h.0) q) (is_before-Below xs zs h.1))))

-- the last rise, and the last number behind it that is above the one there
record Step (xs : List ℕ) (at other : ℕ) : Type 0 where
  behind : at < other
  within : other < length xs
  above : get_or xs at 0 < get_or xs other 0
  falls : (k : ℕ) → at < k → suc k < length xs → get_or xs (suc k) 0 ≤ get_or xs k 0
  rest : (k : ℕ) → other < k → k < length xs → get_or xs k 0 ≤ get_or xs at 0

Step-tail : (x : ℕ) (xs : List ℕ) (i j : ℕ) → Step (x ∷ xs) (suc i) (suc j) → Step xs i j
Step-tail x xs i j s = record {
  behind = omega (arith, s.behind);
  within = omega (arith, s.within);
  above = s.above;
  falls = λ k a b. s.falls (suc k) (omega arith) (omega arith);
  rest = λ k a b. s.rest (suc k) (omega arith) (omega arith);
}

abbrev exchange : List ℕ → ℕ → ℕ → List ℕ
exchange xs i j = set (set xs i (get_or xs j 0)) j (get_or xs i 0)

step_next : (xs : List ℕ) (at other : ℕ) → Step xs at other → IsNext xs (take (suc at) (exchange xs at other) ++ reverse (drop (suc at) (exchange xs at other)))
step_next [] at other s = let w = s.within in absurd (omega arith)
step_next (x ∷ xs) zero zero s = let b = s.behind in absurd (omega arith)
step_next (x ∷ xs) (suc at) zero s = let b = s.behind in absurd (omega arith)
step_next (x ∷ xs) zero (suc j) s = at_front x xs j record {
  within = omega (arith, s.within);
  above = s.above;
  falls = falls_from_steps xs (λ k l. s.falls (suc k) (omega arith) (omega arith));
  rest = λ k a b. s.rest (suc k) (omega arith) (omega arith);
}
step_next (x ∷ xs) (suc at) (suc other) s = IsNext-cons x xs _ (step_next xs at other (Step-tail x xs at other s))

-- the arrangement that is made at the last rise is the next
pub rise_next : (xs : List ℕ) (at other : ℕ) → IsLastRise xs at → IsLastAbove xs at other → IsNext xs (take (at + 1) (swap xs at other) ++ reverse (drop (at + 1) (swap xs at other)))
rise_next xs at other r a =
    subst (λ ys. IsNext xs (take (at + 1) ys ++ reverse (drop (at + 1) ys))) (swap_is xs at other 0 (omega (arith, r.within)) a.within)
    (subst (λ n. IsNext xs (take n (exchange xs at other) ++ reverse (drop n (exchange xs at other)))) (sym (add-one at)) (step_next xs at other record {
      behind = a.behind;
      within = a.within;
      above = a.above;
      falls = λ k h l. subst (λ n. get_or xs n 0 ≤ get_or xs k 0) (add-one k) (r.falls k (omega arith) (omega arith));
      rest = a.rest;
    }))

-- an arrangement that rises nowhere is the last
pub falls_is_last : (xs : List ℕ) → FallsFrom xs 0 → IsLast xs
falls_is_last xs f ys p =
    is_at_most-AtMost ys xs (falls_last xs ys (falls_from_steps xs (λ k l. subst (λ n. get_or xs n 0 ≤ get_or xs k 0) (add-one k) (f k (omega arith) (omega arith)))) p)

-- what has a next is not the last
pub next_is_not_last : (xs ys : List ℕ) → IsNext xs ys → ¬ (IsLast xs)
next_is_not_last xs ys n last = by (AtMost-is_at_most ys xs (last ys n.permutes)) (Below-is_before xs ys n.behind)
  where
    by : AtMost ys xs → Below xs ys → ⊥
    by (inl e) b = Below-irreflexive ys (subst (λ w. Below w ys) (sym e) b)
    by (inr g) b = Below-irreflexive xs (Below-trans xs ys xs b g)

-- ---- the first

climbs_from_steps : (xs : List ℕ) → ((i j : ℕ) → i ≤ j → j < length xs → get_or xs i 0 ≤ get_or xs j 0) → Climbs xs
climbs_from_steps [] h = tt
climbs_from_steps (x ∷ xs) h = (λ y i. at_least y (place_within xs y 0 i), climbs_from_steps xs (λ i j le l. h (suc i) (suc j) (omega arith) (omega arith)))
  where
    at_least : (y : ℕ) → (k : ℕ) × (k < length xs) × (get_or xs k 0 ≡ y) → x ≤ y
    at_least y r = let l = h 0 (suc r.0) (omega arith) (omega (arith, r.1)) in omega (arith, l, r.2)

-- the ascending arrangement is the first
pub ascending_is_first : (bag xs : List ℕ) → Permutes bag xs → IsNonDecreasing xs → IsFirst bag xs
ascending_is_first bag xs p up = record {
  permutes = p;
  least = λ ys q. is_at_most-AtMost xs ys (climbs_first xs ys (climbs_from_steps xs (λ i j le l. up i j 0 le l)) (permutes_trans (Permutes-sym p) q));
}
