-- Membership and distinct lists, and the tests by which a table of distinct keys finds one.
use Rattle.std.proofs.Common.{◌≡◌, ℕ, zero, suc, ◌⊎◌, Bool, true, false, ◌||◌, List, [], ◌∷◌, ◌++◌, Some, slice_get, take, map, inl, inr, refl, sym, ap, ◌∙◌, true≢false, position, if◌then◌else◌, get_or, length, length-append, arith, ◌+◌, ◌≤◌, ◌<◌, eqb, eqb-true, eq-eqb, ne_eqb}
use Rattle.std.specs.List.{list_any, IsDistinct, AllByRecursion}
use Rattle.std.proofs.lemmas.List.Quantifiers.{position-Some}
use Rattle.std.proofs.lemmas.Option.{slice_get-get_or}
use Rattle.rdf_terms.specs.Lists.{In, AreDistinct}
use Rattle.rdf_terms.specs.Document.{Adds, Extends}
use Rattle.std.proofs.lemmas.List.{append-nil}
use Rattle.std.proofs.lemmas.Bool.{or_right}
use Rattle.std.proofs.lemmas.Map.Steps.{length-le_from_distinct_below}

module _ {A : Type 0} where
  pub In-at : (xs : List A) (n : ℕ) (x : A) → slice_get xs n ≡ Some x → In x xs
  In-at [] n x h = cc
  In-at (y ∷ ys) zero x h = let same : y ≡ x = cc in inl (sym same)
  In-at (y ∷ ys) (suc n) x h = inr (In-at ys n x h)

  pub place_in : (xs : List A) (x : A) → In x xs → (n : ℕ) × (slice_get xs n ≡ Some x)
  place_in [] x h = absurd h
  place_in (y ∷ ys) x (inl e) = (0, ap Some (sym e))
  place_in (y ∷ ys) x (inr h) = let p = place_in ys x h in (suc p.0, p.1)

  pub In-take : (n : ℕ) (xs : List A) (x : A) → In x (take n xs) → In x xs
  In-take zero xs x h = absurd h
  In-take (suc n) [] x h = absurd h
  In-take (suc n) (y ∷ ys) x (inl e) = inl e
  In-take (suc n) (y ∷ ys) x (inr h) = inr (In-take n ys x h)

  pub AreDistinct-take : (n : ℕ) (xs : List A) → AreDistinct xs → AreDistinct (take n xs)
  AreDistinct-take zero xs d = tt
  AreDistinct-take (suc n) [] d = tt
  AreDistinct-take (suc n) (y ∷ ys) d = (λ h. d.0 (In-take n ys y h), AreDistinct-take n ys d.1)

  pub In-append_left : (xs ys : List A) (x : A) → In x xs → In x (xs ++ ys)
  In-append_left [] ys x h = absurd h
  In-append_left (y ∷ xs) ys x (inl e) = inl e
  In-append_left (y ∷ xs) ys x (inr h) = inr (In-append_left xs ys x h)

  pub In-append_right : (xs ys : List A) (x : A) → In x ys → In x (xs ++ ys)
  In-append_right [] ys x h = h
  In-append_right (y ∷ xs) ys x h = inr (In-append_right xs ys x h)

  pub In-append : (xs ys : List A) (x : A) → In x (xs ++ ys) → In x xs ⊎ In x ys
  In-append [] ys x h = inr h
  In-append (y ∷ xs) ys x (inl e) = inl (inl e)
  In-append (y ∷ xs) ys x (inr h) = elim (In-append xs ys x h) [ inl l ↦ inl (inr l) | inr r ↦ inr r ]

  pub AreDistinct-push : (xs : List A) (x : A) → AreDistinct xs → (¬ (In x xs)) → AreDistinct (xs ++ x ∷ [])
  AreDistinct-push [] x d n = (λ h. h, tt)
  AreDistinct-push (y ∷ ys) x d n = (apart, AreDistinct-push ys x d.1 (λ h. n (inr h)))
    where
      apart : ¬ (In y (ys ++ x ∷ []))
      apart h = elim (In-append ys (x ∷ []) y h) [ inl l ↦ d.0 l | inr r ↦ elim r [ inl e ↦ n (inl (sym e)) | inr z ↦ z ] ]

  pub AreDistinct-adds : (old : List A) (x : A) (new : List A) → Adds old x new → AreDistinct old → AreDistinct new
  AreDistinct-adds old x new (inl p) d = rw p.0 d
  AreDistinct-adds old x new (inr p) d = rw p.0 (AreDistinct-push old x d p.1)

  pub one_place : (xs : List A) (m n : ℕ) (x : A) → AreDistinct xs → slice_get xs m ≡ Some x → slice_get xs n ≡ Some x → m ≡ n
  one_place [] m n x d p q = cc
  one_place (y ∷ ys) zero zero x d p q = refl
  one_place (y ∷ ys) zero (suc n) x d p q = let same : y ≡ x = cc in absurd (d.0 (rw same (In-at ys n x q)))
  one_place (y ∷ ys) (suc m) zero x d p q = let same : y ≡ x = cc in absurd (d.0 (rw same (In-at ys m x p)))
  one_place (y ∷ ys) (suc m) (suc n) x d p q = ap suc (one_place ys m n x d.1 p q)

  pub Extends-adds : (old : List A) (x : A) (new : List A) → Adds old x new → Extends old new
  Extends-adds old x new (inl p) = ([], p.0 ∙ sym (append-nil old))
  Extends-adds old x new (inr p) = (x ∷ [], p.0)

  pub length-adds : (old : List A) (x : A) (new : List A) → Adds old x new → length new ≤ length old + 1
  length-adds old x new (inl p) = omega (arith, ap length p.0)
  length-adds old x new (inr p) = omega (arith, ap length p.0, length-append old (x ∷ []))

pub In-map : {A B : Type 0} (f : A → B) (xs : List A) (x : A) → In x xs → In (f x) (map f xs)
In-map f [] x h = absurd h
In-map f (y ∷ ys) x (inl e) = inl (ap f e)
In-map f (y ∷ ys) x (inr h) = inr (In-map f ys x h)

pub from_In-map : {A B : Type 0} (f : A → B) (xs : List A) (y : B) → In y (map f xs) → (x : A) × In x xs × (y ≡ f x)
from_In-map f [] y h = absurd h
from_In-map f (x ∷ xs) y (inl e) = (x, inl refl, e)
from_In-map f (x ∷ xs) y (inr h) = let p = from_In-map f xs y h in (p.0, inr p.1, p.2)

-- a test that tells which keys are equal
pub record TellsEqual {K : Type 0} (eq : K → K → Bool) : Type 0 where
  pub same : (a b : K) → eq a b ≡ true → a ≡ b
  pub itself : (a : K) → eq a a ≡ true

module _ {K : Type 0} (eq : K → K → Bool) (tells : TellsEqual eq) where
  first_or_later : (k x : K) (xs : List K) (b : Bool) → eq k x ≡ b → (b || list_any (eq k) xs) ≡ true → (list_any (eq k) xs ≡ true → In k xs) → (k ≡ x) ⊎ In k xs
  first_or_later k x xs true e h later = inl (tells.same k x e)
  first_or_later k x xs false e h later = inr (later h)

  pub present : (k : K) (ks : List K) → list_any (eq k) ks ≡ true → In k ks
  present k [] h = absurd (true≢false (sym h))
  present k (x ∷ xs) h = first_or_later k x xs (eq k x) refl h (present k xs)

  passes : (k : K) (ks : List K) → In k ks → list_any (eq k) ks ≡ true
  passes k [] h = absurd h
  passes k (x ∷ xs) (inl e) = let is : eq k x ≡ true = rw (← e) (tells.itself k) in rw is refl
  passes k (x ∷ xs) (inr h) = or_right (eq k x) (list_any (eq k) xs) (passes k xs h)

  pub absent : (k : K) (ks : List K) → list_any (eq k) ks ≡ false → ¬ (In k ks)
  absent k ks h there = true≢false (sym (passes k ks there) ∙ h)

  pub AreDistinct-from_test : (ks : List K) → IsDistinct eq ks → AreDistinct ks
  unfolding IsDistinct
  AreDistinct-from_test [] d = tt
  AreDistinct-from_test (k ∷ ks) d = (apart ks d.0, AreDistinct-from_test ks d.1)
    where
      apart : (xs : List K) → AllByRecursion (λ y. eq k y ≡ false) xs → ¬ (In k xs)
      apart [] a h = h
      apart (x ∷ xs) a (inl e) = let is : eq k x ≡ true = rw (← e) (tells.itself k) in true≢false (sym is ∙ a.0)
      apart (x ∷ xs) a (inr h) = apart xs a.1 h

  pub inserted : (old new : List K) (k : K) → new ≡ (if list_any (eq k) old then old else old ++ k ∷ []) → Adds old k new
  inserted old new k e = by (list_any (eq k) old) refl e
    where
      by : (b : Bool) → list_any (eq k) old ≡ b → new ≡ (if b then old else old ++ k ∷ []) → Adds old k new
      by true is e = inl (e, present k old is)
      by false is e = inr (e, absent k old is)

  pub place_is : (k : K) (ks : List K) (i : ℕ) → position (eq k) ks ≡ Some i → slice_get ks i ≡ Some k
  place_is k ks i p =
      let q = position-Some (eq k) ks i k p in
      slice_get-get_or ks i k q.0 ∙ ap Some (sym (tells.same k (get_or ks i k) q.1))

-- ---- numbers

numbers_tell : TellsEqual eqb
numbers_tell = record { same = eqb-true; itself = λ n. eq-eqb n n refl }

pub decide_in : (n : ℕ) (ns : List ℕ) → In n ns ⊎ (¬ (In n ns))
decide_in n ns = by (list_any (eqb n) ns) refl
  where
    by : (b : Bool) → list_any (eqb n) ns ≡ b → In n ns ⊎ (¬ (In n ns))
    by true e = inl (present eqb numbers_tell n ns e)
    by false e = inr (absent eqb numbers_tell n ns e)

pub AreDistinct-from_IsDistinct : (ns : List ℕ) → IsDistinct eqb ns → AreDistinct ns
AreDistinct-from_IsDistinct = AreDistinct-from_test eqb numbers_tell

to_IsDistinct : (ns : List ℕ) → AreDistinct ns → IsDistinct eqb ns
unfolding IsDistinct
to_IsDistinct [] d = tt
to_IsDistinct (n ∷ ns) d = (apart ns d.0, to_IsDistinct ns d.1)
  where
    apart : (ms : List ℕ) → ¬ (In n ms) → AllByRecursion (λ m. eqb n m ≡ false) ms
    apart [] h = tt
    apart (m ∷ ms) h = (ne_eqb n m (λ e. h (inl e)), apart ms (λ i. h (inr i)))

-- distinct numbers below a bound are at most so many
pub length-distinct_below : (ns : List ℕ) (bound : ℕ) → AreDistinct ns → ((n : ℕ) → In n ns → n < bound) → length ns ≤ bound
length-distinct_below ns bound d below = length-le_from_distinct_below ns bound (to_IsDistinct ns d) (λ n h. below n (present eqb numbers_tell n ns h))
