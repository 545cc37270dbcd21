-- Lists that ascend strictly by a total order: two of the same elements are equal.
use Rattle.std.proofs.Common.{◌≡◌, ℕ, zero, suc, ◌+◌, ◌<◌, ◌≤◌, true, false, cond, Bool, List, [], ◌∷◌, ◌++◌, ◌⊎◌, map, filter, length, get_or, nat_cmp, inl, inr, refl, sym, ap, ◌∙◌, subst, arith, Ordering, Less, Equal, Greater}
use Rattle.std.specs.Cmp.{IsTotalOrder}
use Rattle.std.specs.Ordering.{is_lt, ordering_reverse}
use Rattle.std.specs.List.Sorted.{IsSorted}
use Rattle.std.proofs.lemmas.Bool.Decides.{nat_tests}
use Rattle.std.proofs.lemmas.Cmp.{tied_itself}
use Rattle.std.proofs.lemmas.List.Sorted.{ranks_by, sorted_far}
use Rattle.rdf_terms.proofs.Common.{In, AreDistinct, numbers_below, In-append, In-map, from_In-numbers_below, from_In-filter, place_within}
use Rattle.canon_core.specs.HashOrder.{StrictlyAscends}

-- ---- by any total order

module _ {A : Type 0} (cmp : A → A → Ordering) (o : IsTotalOrder cmp) where
  pub not_itself : (x : A) → ¬ (cmp x x ≡ Less)
  not_itself x e = let d : Less ≡ Equal = sym e ∙ tied_itself o x in cc

  not_back : (x y : A) → cmp x y ≡ Less → ¬ (cmp y x ≡ Less)
  not_back x y e f = not_itself x (o.trans x y x e f)

  same_first : (x y : A) (xs ys : List A) → StrictlyAscends cmp (x ∷ xs) → StrictlyAscends cmp (y ∷ ys) → In x (y ∷ ys) → In y (x ∷ xs) → x ≡ y
  same_first x y xs ys a b (inl e) k = e
  same_first x y xs ys a b (inr h) (inl e) = sym e
  same_first x y xs ys a b (inr h) (inr k) = absurd (not_back x y (a.0 y k) (b.0 x h))

  same_rest : (x y z : A) (ys : List A) → x ≡ y → cmp x z ≡ Less → In z (y ∷ ys) → In z ys
  same_rest x y z ys e l (inl q) = absurd (not_itself x (subst (λ w. cmp x w ≡ Less) (q ∙ sym e) l))
  same_rest x y z ys e l (inr k) = k

  pub same_ascending : (xs ys : List A) → StrictlyAscends cmp xs → StrictlyAscends cmp ys → ((x : A) → In x xs → In x ys) → ((x : A) → In x ys → In x xs) → xs ≡ ys
  same_ascending [] [] a b f g = refl
  same_ascending [] (y ∷ ys) a b f g = absurd (g y (inl refl))
  same_ascending (x ∷ xs) [] a b f g = absurd (f x (inl refl))
  same_ascending (x ∷ xs) (y ∷ ys) a b f g =
      let e : x ≡ y = same_first x y xs ys a b (f x (inl refl)) (g y (inl refl)) in
      ap (λ w. w ∷ xs) e
      ∙ ap (λ ws. y ∷ ws) (same_ascending xs ys a.1 b.1 (λ z h. same_rest x y z ys e (a.0 z h) (f z (inr h))) (λ z h. same_rest y x z xs (sym e) (b.0 z h) (g z (inr h))))

  -- ---- what a sort gives, where no two elements tie

  before_from_sort : (number : A → ℕ) → ((x y : A) → cmp x y ≡ Equal → number x ≡ number y) → (x y : A) → is_lt (cmp y x) ≡ false → ¬ (number x ≡ number y) → cmp x y ≡ Less
  before_from_sort number tied x y up apart = by (cmp x y) refl
    where
      by : (r : Ordering) → cmp x y ≡ r → r ≡ Less
      by Less e = refl
      by Equal e = absurd (apart (tied x y e))
      by Greater e = let back : cmp y x ≡ Less = o.antisymm y x ∙ ap ordering_reverse e in let d : true ≡ false = sym (ap is_lt back) ∙ up in cc

  sorted-behind : (x : A) (xs : List A) → IsSorted cmp (x ∷ xs) → IsSorted cmp xs
  sorted-behind x xs up k d lo hi =
      let next : suc k + 1 ≡ suc (k + 1) = omega arith in
      subst (λ n. is_lt (cmp (get_or (x ∷ xs) n d) (get_or xs k d)) ≡ false) next (up (suc k) d (omega arith) (omega arith))

  pub ascends_from_sort : (number : A → ℕ) → ((x y : A) → cmp x y ≡ Equal → number x ≡ number y) → (xs : List A) → IsSorted cmp xs → AreDistinct (map number xs) → StrictlyAscends cmp xs
  ascends_from_sort number tied [] up once = tt
  ascends_from_sort number tied (x ∷ xs) up once = (
    λ y h.
        let p = place_within xs y x h in
        let l : p.0 < length xs = p.1 in
        let low : 0 ≤ suc p.0 = omega arith in
        let within : suc p.0 < length (x ∷ xs) = omega arith in
        let far : is_lt (cmp (get_or xs p.0 x) x) ≡ false = sorted_far (λ v w. is_lt (cmp v w)) (ranks_by o (λ (v : A). v)) (x ∷ xs) up 0 (suc p.0) x low within in
        before_from_sort number tied x y (subst (λ v. is_lt (cmp v x) ≡ false) p.2 far) (λ e. once.0 (subst (λ n. In n (map number xs)) (sym e) (In-map number xs y h))),
    ascends_from_sort number tied xs (sorted-behind x xs up) once.1,
  )

-- ---- parts of a list

module _ {A : Type 0} (cmp : A → A → Ordering) where
  pub StrictlyAscends-filter : (test : A → Bool) (xs : List A) → StrictlyAscends cmp xs → StrictlyAscends cmp (filter test xs)
  StrictlyAscends-filter test [] a = tt
  StrictlyAscends-filter test (x ∷ xs) a = by (test x) (StrictlyAscends-filter test xs a.1)
    where
      by : (b : Bool) → StrictlyAscends cmp (filter test xs) → StrictlyAscends cmp (cond b (x ∷ filter test xs) (filter test xs))
      by true r = (λ y h. a.0 y (from_In-filter test y xs h).0, r)
      by false r = r

  StrictlyAscends-push : (xs : List A) (x : A) → StrictlyAscends cmp xs → ((y : A) → In y xs → cmp y x ≡ Less) → StrictlyAscends cmp (xs ++ x ∷ [])
  StrictlyAscends-push [] x a l = (λ y h. absurd h, tt)
  StrictlyAscends-push (z ∷ xs) x a l = (λ y h. by y (In-append xs (x ∷ []) y h), StrictlyAscends-push xs x a.1 (λ y h. l y (inr h)))
    where
      by : (y : A) → In y xs ⊎ In y (x ∷ []) → cmp z y ≡ Less
      by y (inl h) = a.0 y h
      by y (inr (inl e)) = subst (λ w. cmp z w ≡ Less) (sym e) (l z (inl refl))
      by y (inr (inr h)) = absurd h

-- ---- numbers

pub nat_cmp-less : (m n : ℕ) → m < n → nat_cmp m n ≡ Less
nat_cmp-less m n l = grind (arith, nat_tests)

pub StrictlyAscends-numbers_below : (n : ℕ) → StrictlyAscends nat_cmp (numbers_below n)
StrictlyAscends-numbers_below zero = tt
StrictlyAscends-numbers_below (suc n) = StrictlyAscends-push nat_cmp (numbers_below n) n (StrictlyAscends-numbers_below n) (λ y h. nat_cmp-less y n (from_In-numbers_below n y h))
