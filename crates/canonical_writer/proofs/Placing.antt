-- Places in a list of distinct numbers.
use Rattle.std.proofs.Common.{◌≡◌, ◌≢◌, ℕ, suc, ◌+◌, ◌<◌, ◌≤◌, ◌==◌, ◌||◌, ◌⊎◌, Bool, true, false, if◌then◌else◌, List, [], ◌∷◌, Option, Some, None, IsSome, length, get_or, set, refl, sym, ap, subst, ◌∙◌, inl, inr, arith, below_more, true≢false}
use Rattle.std.specs.List.{list_any}
use Rattle.std.proofs.lemmas.Bool.{eqb-true, eqb-false}
use Rattle.std.proofs.lemmas.List.{get_or-set_other, get_or-set_same}
use Rattle.std.proofs.lemmas.Map.Steps.{le-length_from_below}
use Rattle.rdf_terms.proofs.Common.{In, AreDistinct, place_of, after_first, In-get_or, one_place_within}
use Rattle.canonical_writer.specs.Places.{TellsPlaces}

-- ---- the place of a number

some_place : (o : Option ℕ) → IsSome o → (k : ℕ) × (o ≡ Some k)
some_place None h = absurd (true≢false (sym h))
some_place (Some k) h = (k, refl)

pub place-found : (xs : List ℕ) (n k : ℕ) → place_of xs n ≡ Some k → (k < length xs) × (get_or xs k 0 ≡ n)
place-found [] n k e = cc
place-found (x ∷ xs) n k e = by (x == n) refl (place_of xs n) refl (place-found xs n) e
  where
    by : (b : Bool) → (x == n) ≡ b → (o : Option ℕ) → place_of xs n ≡ o → ((j : ℕ) → place_of xs n ≡ Some j → (j < length xs) × (get_or xs j 0 ≡ n)) → (if b then Some 0 else after_first o) ≡ Some k
        → (k < length (x ∷ xs)) × (get_or (x ∷ xs) k 0 ≡ n)
    by true is o at rest e = let z : 0 ≡ k = cc in rw (← z) (omega arith, eqb-true x n is)
    by false is None at rest e = cc
    by false is (Some j) at rest e =
        let z : suc j ≡ k = cc in
        let p : (j < length xs) × (get_or xs j 0 ≡ n) = rest j at in
        rw (← z) (omega (arith, p.0), p.1)

-- what the table tells of a number that is in the list
pub told_place : (list places : List ℕ) (n : ℕ) → TellsPlaces list places → IsSome (place_of list n) → (n < length places) × (place_of list n ≡ Some (get_or places n 0))
told_place list places n told there =
    let s = some_place (place_of list n) there in
    let p = place-found list n s.0 s.1 in
    let q = told s.0 p.0 in
    (subst (λ m. m < length places) p.1 q.0, s.1 ∙ ap Some (sym (subst (λ m. get_or places m 0 ≡ s.0) p.1 q.1)))

-- ---- filling the table

pub told_more : (list places : List ℕ) (i : ℕ) → AreDistinct list → i < length list → get_or list i 0 < length places
    → ((k : ℕ) → k < i → get_or places (get_or list k 0) 0 ≡ k)
    → (k : ℕ) → k < i + 1 → get_or (set places (get_or list i 0) i) (get_or list k 0) 0 ≡ k
told_more list places i d h room told =
    below_more _ _
    (λ k lt.
    let ne : get_or list k 0 ≢ get_or list i 0 = λ e. absurd (let s : k ≡ i = one_place_within list k i 0 d (omega arith) h e in omega (arith, s)) in
    get_or-set_other places (get_or list i 0) (get_or list k 0) i 0 ne ∙ told k lt)
    (get_or-set_same places (get_or list i 0) i 0 room)

-- ---- which numbers have a place

pub place-here : (xs : List ℕ) (n : ℕ) → In n xs → (k : ℕ) × (place_of xs n ≡ Some k)
place-here [] n h = absurd h
place-here (x ∷ xs) n h = by (x == n) refl h (place-here xs n)
  where
    by : (b : Bool) → (x == n) ≡ b → (n ≡ x) ⊎ In n xs → (In n xs → (k : ℕ) × (place_of xs n ≡ Some k)) → (k : ℕ) × ((if b then Some 0 else after_first (place_of xs n)) ≡ Some k)
    by true is h rest = (0, refl)
    by false is (inl e) rest = absurd (eqb-false x n is (sym e))
    by false is (inr h) rest = let p = rest h in (suc p.0, ap after_first p.1)

-- the place of the number that stands at a place
pub place-get_or : (xs : List ℕ) (k : ℕ) → AreDistinct xs → k < length xs → place_of xs (get_or xs k 0) ≡ Some k
place-get_or xs k d h =
    let p = place-here xs (get_or xs k 0) (In-get_or xs k 0 h) in
    let q = place-found xs (get_or xs k 0) p.0 p.1 in
    p.1 ∙ ap Some (one_place_within xs p.0 k 0 d q.0 h q.1)

-- numbers that are all there make a list at least so long
pub length-all_below : (xs : List ℕ) (n : ℕ) → ((q : ℕ) → q < n → In q xs) → n ≤ length xs
length-all_below xs n all = le-length_from_below xs n (λ q h. passes q xs (all q h))
  where
    passes : (q : ℕ) (ys : List ℕ) → In q ys → list_any (λ y. q == y) ys ≡ true
    passes q [] h = absurd h
    passes q (y ∷ ys) h = step (q == y) refl h (passes q ys)
      where
        step : (b : Bool) → (q == y) ≡ b → (q ≡ y) ⊎ In q ys → (In q ys → list_any (λ y. q == y) ys ≡ true) → (b || list_any (λ y. q == y) ys) ≡ true
        step true is h rest = refl
        step false is (inl e) rest = absurd (eqb-false q y is e)
        step false is (inr h) rest = rest h
