-- Laws of `Permutes`, and the way to it from what a sort of the library ensures.
use Rattle.std.proofs.Common.{◌≡◌, ℕ, zero, suc, ◌<◌, Bool, true, false, List, [], ◌∷◌, ◌++◌, map, filter, length, get_or, inl, inr, refl, sym, ap, ◌∙◌, subst, append_assoc, arith, if◌then◌else◌, append-nil}
use Rattle.std.proofs.Math.ListN.{set}
use Rattle.std.specs.List.{flat_map, swap}
use Rattle.std.specs.List.Sorted.{IsPermutation}
use Rattle.std.proofs.lemmas.List.Sorted.{IsPermutation-keeps}
use Rattle.rdf_terms.specs.Lists.{In, AreDistinct, Permutes, permutes_nil, permutes_cons, permutes_swap, permutes_trans}

module _ {A : Type 0} where
  pub Permutes-refl : (xs : List A) → Permutes xs xs
  Permutes-refl [] = permutes_nil
  Permutes-refl (x ∷ xs) = permutes_cons (Permutes-refl xs)

  pub Permutes-from_equal : {xs ys : List A} → xs ≡ ys → Permutes xs ys
  Permutes-from_equal {xs = xs} e = subst (Permutes xs) e (Permutes-refl xs)

  pub Permutes-sym : {xs ys : List A} → Permutes xs ys → Permutes ys xs
  Permutes-sym permutes_nil = permutes_nil
  Permutes-sym (permutes_cons p) = permutes_cons (Permutes-sym p)
  Permutes-sym permutes_swap = permutes_swap
  Permutes-sym (permutes_trans p q) = permutes_trans (Permutes-sym q) (Permutes-sym p)

  -- what a step cannot change is the same on both sides
  pub length-Permutes : {xs ys : List A} → Permutes xs ys → length xs ≡ length ys
  length-Permutes permutes_nil = refl
  length-Permutes (permutes_cons p) = ap suc (length-Permutes p)
  length-Permutes permutes_swap = refl
  length-Permutes (permutes_trans p q) = length-Permutes p ∙ length-Permutes q

  -- ---- appended lists

  pub Permutes-append_left : (zs : List A) {xs ys : List A} → Permutes xs ys → Permutes (zs ++ xs) (zs ++ ys)
  Permutes-append_left [] p = p
  Permutes-append_left (z ∷ zs) p = permutes_cons (Permutes-append_left zs p)

  pub Permutes-append_right : (zs : List A) {xs ys : List A} → Permutes xs ys → Permutes (xs ++ zs) (ys ++ zs)
  Permutes-append_right zs permutes_nil = Permutes-refl zs
  Permutes-append_right zs (permutes_cons p) = permutes_cons (Permutes-append_right zs p)
  Permutes-append_right zs permutes_swap = permutes_swap
  Permutes-append_right zs (permutes_trans p q) = permutes_trans (Permutes-append_right zs p) (Permutes-append_right zs q)

  pub Permutes-append : {xs ys us vs : List A} → Permutes xs ys → Permutes us vs → Permutes (xs ++ us) (ys ++ vs)
  Permutes-append {ys = ys} {us = us} p q = permutes_trans (Permutes-append_right us p) (Permutes-append_left ys q)

  -- the first element goes behind xs
  pub Permutes-middle : (x : A) (xs ys : List A) → Permutes (x ∷ (xs ++ ys)) (xs ++ x ∷ ys)
  Permutes-middle x [] ys = Permutes-refl (x ∷ ys)
  Permutes-middle x (z ∷ xs) ys = permutes_trans permutes_swap (permutes_cons (Permutes-middle x xs ys))

  pub Permutes-append_comm : (xs ys : List A) → Permutes (xs ++ ys) (ys ++ xs)
  Permutes-append_comm [] ys = Permutes-from_equal (sym (append-nil ys))
  Permutes-append_comm (x ∷ xs) ys = permutes_trans (permutes_cons (Permutes-append_comm xs ys)) (Permutes-middle x ys xs)

  -- ---- elements

  pub In-Permutes : (a : A) {xs ys : List A} → Permutes xs ys → In a xs → In a ys
  In-Permutes a permutes_nil h = h
  In-Permutes a (permutes_cons p) (inl e) = inl e
  In-Permutes a (permutes_cons p) (inr h) = inr (In-Permutes a p h)
  In-Permutes a permutes_swap (inl e) = inr (inl e)
  In-Permutes a permutes_swap (inr (inl e)) = inl e
  In-Permutes a permutes_swap (inr (inr h)) = inr (inr h)
  In-Permutes a (permutes_trans p q) h = In-Permutes a q (In-Permutes a p h)

  swapped_apart : (x y : A) (xs : List A) → AreDistinct (x ∷ y ∷ xs) → AreDistinct (y ∷ x ∷ xs)
  swapped_apart x y xs d = (y_apart, (λ h. d.0 (inr h), d.1.1))
    where
      y_apart : ¬ (In y (x ∷ xs))
      y_apart (inl e) = d.0 (inl (sym e))
      y_apart (inr h) = d.1.0 h

  pub AreDistinct-Permutes : {xs ys : List A} → Permutes xs ys → AreDistinct xs → AreDistinct ys
  AreDistinct-Permutes permutes_nil d = d
  AreDistinct-Permutes (permutes_cons {x = x} p) d = (λ h. d.0 (In-Permutes x (Permutes-sym p) h), AreDistinct-Permutes p d.1)
  AreDistinct-Permutes (permutes_swap {x = x} {y = y} {xs = xs}) d = swapped_apart x y xs d
  AreDistinct-Permutes (permutes_trans p q) d = AreDistinct-Permutes q (AreDistinct-Permutes p d)

  -- ---- the elements that pass a test

  kept_first : (b : Bool) (x : A) {xs ys : List A} → Permutes xs ys → Permutes (if b then x ∷ xs else xs) (if b then x ∷ ys else ys)
  kept_first true x p = permutes_cons p
  kept_first false x p = p

  kept_two : (a b : Bool) (x y : A) (xs : List A)
      → Permutes (if a then x ∷ (if b then y ∷ xs else xs) else (if b then y ∷ xs else xs)) (if b then y ∷ (if a then x ∷ xs else xs) else (if a then x ∷ xs else xs))
  kept_two true true x y xs = permutes_swap
  kept_two true false x y xs = Permutes-refl (x ∷ xs)
  kept_two false true x y xs = Permutes-refl (y ∷ xs)
  kept_two false false x y xs = Permutes-refl xs

  pub Permutes-filter : (test : A → Bool) {xs ys : List A} → Permutes xs ys → Permutes (filter test xs) (filter test ys)
  Permutes-filter test permutes_nil = permutes_nil
  Permutes-filter test (permutes_cons {x = x} p) = kept_first (test x) x (Permutes-filter test p)
  Permutes-filter test (permutes_swap {x = x} {y = y} {xs = xs}) = kept_two (test x) (test y) x y (filter test xs)
  Permutes-filter test (permutes_trans p q) = permutes_trans (Permutes-filter test p) (Permutes-filter test q)

  -- ---- from exchanges of two places

  -- x and the element at n change places
  exchanged : (x : A) (xs : List A) (n : ℕ) (d : A) → n < length xs → Permutes (x ∷ xs) (get_or xs n d ∷ set xs n x)
  exchanged x [] n d h = absurd (omega arith)
  exchanged x (y ∷ ys) zero d h = permutes_swap
  exchanged x (y ∷ ys) (suc n) d h =
      permutes_trans permutes_swap (permutes_trans (permutes_cons (exchanged x ys n d (omega arith))) permutes_swap)

  two_places : (xs : List A) (m n : ℕ) (d : A) → m < length xs → n < length xs → Permutes xs (set (set xs m (get_or xs n d)) n (get_or xs m d))
  two_places [] m n d p q = absurd (omega arith)
  two_places (x ∷ xs) zero zero d p q = Permutes-refl (x ∷ xs)
  two_places (x ∷ xs) zero (suc n) d p q = exchanged x xs n d (omega arith)
  two_places (x ∷ xs) (suc m) zero d p q = exchanged x xs m d (omega arith)
  two_places (x ∷ xs) (suc m) (suc n) d p q = permutes_cons (two_places xs m n d (omega arith) (omega arith))

  swapped : (xs : List A) (m n : ℕ) → m < length xs → n < length xs → Permutes xs (swap xs m n)
  swapped [] m n p q = permutes_nil
  swapped (x ∷ xs) m n p q = two_places (x ∷ xs) m n x p q

  -- what a sort of the library ensures
  pub Permutes-from_IsPermutation : (xs ys : List A) → IsPermutation xs ys → Permutes xs ys
  Permutes-from_IsPermutation xs ys p = IsPermutation-keeps xs (Permutes xs) (Permutes-refl xs) (λ l m n h g so_far. permutes_trans so_far (swapped l m n h g)) ys p

between_equals : {B : Type 0} {a b c d : List B} → a ≡ b → c ≡ d → Permutes a c → Permutes b d
between_equals {b = b} {c = c} e f p = subst (Permutes b) f (subst (λ w. Permutes w c) e p)

module _ {A B : Type 0} where
  pub Permutes-map : (f : A → B) {xs ys : List A} → Permutes xs ys → Permutes (map f xs) (map f ys)
  Permutes-map f permutes_nil = permutes_nil
  Permutes-map f (permutes_cons p) = permutes_cons (Permutes-map f p)
  Permutes-map f permutes_swap = permutes_swap
  Permutes-map f (permutes_trans p q) = permutes_trans (Permutes-map f p) (Permutes-map f q)

  pub Permutes-flat_map : (f : A → List B) {xs ys : List A} → Permutes xs ys → Permutes (flat_map f xs) (flat_map f ys)
  Permutes-flat_map f permutes_nil = permutes_nil
  Permutes-flat_map f (permutes_cons {x = x} p) = Permutes-append_left (f x) (Permutes-flat_map f p)
  Permutes-flat_map f (permutes_swap {x = x} {y = y} {xs = xs}) =
      let rest = flat_map f xs in
      between_equals (append_assoc (f x) (f y) rest) (append_assoc (f y) (f x) rest) (Permutes-append_right rest (Permutes-append_comm (f x) (f y)))
  Permutes-flat_map f (permutes_trans p q) = permutes_trans (Permutes-flat_map f p) (Permutes-flat_map f q)
