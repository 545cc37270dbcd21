-- How many of the first numbers pass a test.
use Rattle.std.proofs.Common.{◌≡◌, ℕ, zero, suc, ◌+◌, ◌<◌, ◌≤◌, ◌⊎◌, Bool, true, false, [], ◌∷◌, ◌++◌, length, map, filter, inl, inr, refl, sym, ap, ◌∙◌, arith, length-append, if◌then◌else◌, get_or}
use Rattle.std.proofs.lemmas.List.{map-append, get_or_append_left, get_or_at, append-nil}
use Rattle.rdf_terms.specs.Lists.{In, AreDistinct, numbers_below}
use Rattle.rdf_terms.proofs.Membership.{In-append, AreDistinct-push, In-append_left, In-append_right}
use Rattle.std.proofs.lemmas.Bool.{cases_eq}
use Rattle.std.proofs.lemmas.List.Elements.{filter-append}

-- ---- the numbers below n

pub from_In-numbers_below : (n k : ℕ) → In k (numbers_below n) → k < n
from_In-numbers_below zero k h = absurd h
from_In-numbers_below (suc n) k h = by (In-append (numbers_below n) (n ∷ []) k h) (from_In-numbers_below n k)
  where
    by : In k (numbers_below n) ⊎ In k (n ∷ []) → (In k (numbers_below n) → k < n) → k < suc n
    by (inl i) rest = let l : k < n = rest i in omega arith
    by (inr (inl e)) rest = omega arith
    by (inr (inr z)) rest = absurd z

pub In-numbers_below : (n k : ℕ) → k < n → In k (numbers_below n)
In-numbers_below zero k h = absurd (omega arith)
In-numbers_below (suc n) k h = by (cases_eq k n) (In-numbers_below n k)
  where
    by : (k ≡ n) ⊎ (k ≡ n → ⊥) → (k < n → In k (numbers_below n)) → In k (numbers_below n ++ n ∷ [])
    by (inl e) rest = In-append_right (numbers_below n) (n ∷ []) k (inl e)
    by (inr ne) rest = In-append_left (numbers_below n) (n ∷ []) k (rest (omega arith))

pub AreDistinct-numbers_below : (n : ℕ) → AreDistinct (numbers_below n)
AreDistinct-numbers_below zero = tt
AreDistinct-numbers_below (suc n) = AreDistinct-push (numbers_below n) n (AreDistinct-numbers_below n) (λ h. let l : n < n = from_In-numbers_below n n h in omega arith)

pub length-numbers_below : (n : ℕ) → length (numbers_below n) ≡ n
length-numbers_below zero = refl
length-numbers_below (suc n) = let e : length (numbers_below n) ≡ n = length-numbers_below n in omega (arith, length-append (numbers_below n) (n ∷ []))

pub get_or-numbers_below : (n k : ℕ) → k < n → get_or (numbers_below n) k 0 ≡ k
get_or-numbers_below zero k h = absurd (omega arith)
get_or-numbers_below (suc n) k h = by (split k n) (get_or-numbers_below n k)
  where
    split : (k n : ℕ) → (k < n) ⊎ (n ≤ k)
    split k n = grind arith

    by : (k < n) ⊎ (n ≤ k) → (k < n → get_or (numbers_below n) k 0 ≡ k) → get_or (numbers_below n ++ n ∷ []) k 0 ≡ k
    by (inl l) rest = let m : k < length (numbers_below n) = omega (arith, length-numbers_below n) in get_or_append_left (numbers_below n) (n ∷ []) 0 k m ∙ rest l
    by (inr g) rest = let e : length (numbers_below n) ≡ k = omega (arith, length-numbers_below n) in get_or_at (numbers_below n) n [] 0 k e ∙ omega (arith, length-numbers_below n)

-- a function of the numbers below n depends on what it is there alone
pub map-numbers_below : {A : Type 0} (f g : ℕ → A) (n : ℕ) → ((k : ℕ) → k < n → f k ≡ g k) → map f (numbers_below n) ≡ map g (numbers_below n)
map-numbers_below f g zero e = refl
map-numbers_below f g (suc n) e =
    let l : n < suc n = omega arith in
    map-append f (numbers_below n) (n ∷ []) ∙ (λ i. map-numbers_below f g n (λ k h. let m : k < suc n = omega arith in e k m) i ++ e n l i ∷ []) ∙ sym (map-append g (numbers_below n) (n ∷ []))

-- ---- ranks

abbrev pub rank : (ℕ → Bool) → ℕ → ℕ
rank p n = length (filter p (numbers_below n))

pub filter-numbers_below_suc : (p : ℕ → Bool) (n : ℕ) (b : Bool) → p n ≡ b → filter p (numbers_below (suc n)) ≡ filter p (numbers_below n) ++ (if b then n ∷ [] else [])
filter-numbers_below_suc p n b e = filter-append p (numbers_below n) (n ∷ []) ∙ ap (λ c. filter p (numbers_below n) ++ (if c then n ∷ [] else [])) e

pub rank-suc_true : (p : ℕ → Bool) (n : ℕ) → p n ≡ true → rank p (suc n) ≡ rank p n + 1
rank-suc_true p n e = ap length (filter-numbers_below_suc p n true e) ∙ length-append (filter p (numbers_below n)) (n ∷ [])

pub rank-suc_false : (p : ℕ → Bool) (n : ℕ) → p n ≡ false → rank p (suc n) ≡ rank p n
rank-suc_false p n e = ap length (filter-numbers_below_suc p n false e) ∙ ap length (append-nil (filter p (numbers_below n)))

rank-suc : (p : ℕ → Bool) (n : ℕ) → (rank p n ≤ rank p (suc n)) × (rank p (suc n) ≤ rank p n + 1)
rank-suc p n = by (p n) refl
  where
    by : (b : Bool) → p n ≡ b → (rank p n ≤ rank p (suc n)) × (rank p (suc n) ≤ rank p n + 1)
    by true e = let h : rank p (suc n) ≡ rank p n + 1 = rank-suc_true p n e in (omega arith, omega arith)
    by false e = let h : rank p (suc n) ≡ rank p n = rank-suc_false p n e in (omega arith, omega arith)

pub rank-le : (p : ℕ → Bool) (k n : ℕ) → k ≤ n → rank p k ≤ rank p n
rank-le p k zero h = let e : k ≡ 0 = omega arith in rw e (omega arith)
rank-le p k (suc n) h = by (cases k n h) (rank-le p k n)
  where
    cases : (k n : ℕ) → k ≤ suc n → (k ≡ suc n) ⊎ (k ≤ n)
    cases k n h = grind arith

    by : (k ≡ suc n) ⊎ (k ≤ n) → (k ≤ n → rank p k ≤ rank p n) → rank p k ≤ rank p (suc n)
    by (inl e) rest = rw e (omega arith)
    by (inr l) rest = let a : rank p k ≤ rank p n = rest l in omega (arith, (rank-suc p n).0)

pub rank-lt : (p : ℕ → Bool) (k n : ℕ) → k < n → p k ≡ true → rank p k < rank p n
rank-lt p k n h e =
    let l : suc k ≤ n = omega arith in
    omega (arith, rank-suc_true p k e, rank-le p (suc k) n l)

pub rank-injective : (p : ℕ → Bool) (a b : ℕ) → p a ≡ true → p b ≡ true → rank p a ≡ rank p b → a ≡ b
rank-injective p a b pa pb e = by (apart a b)
  where
    apart : (a b : ℕ) → (a ≡ b) ⊎ ((a < b) ⊎ (b < a))
    apart a b = grind arith

    by : (a ≡ b) ⊎ ((a < b) ⊎ (b < a)) → a ≡ b
    by (inl s) = s
    by (inr (inl l)) = let h : rank p a < rank p b = rank-lt p a b l pa in absurd (omega arith)
    by (inr (inr l)) = let h : rank p b < rank p a = rank-lt p b a l pb in absurd (omega arith)

pub rank-bound : (p : ℕ → Bool) (n : ℕ) → rank p n ≤ n
rank-bound p zero = omega arith
rank-bound p (suc n) = let h : rank p n ≤ n = rank-bound p n in omega (arith, (rank-suc p n).1)

-- each number below the rank of n is the rank of a number below n that passes
pub rank-onto : (p : ℕ → Bool) (n k : ℕ) → k < rank p n → (a : ℕ) × (a < n) × (p a ≡ true) × (rank p a ≡ k)
rank-onto p zero k h = absurd (omega arith)
rank-onto p (suc n) k h = by (p n) refl (split k (rank p n)) (rank-onto p n k)
  where
    split : (k r : ℕ) → (k < r) ⊎ (r ≤ k)
    split k r = grind arith

    wider : (a : ℕ) × (a < n) × (p a ≡ true) × (rank p a ≡ k) → (a : ℕ) × (a < suc n) × (p a ≡ true) × (rank p a ≡ k)
    wider x = let l : x.0 < n = x.1 in (x.0, omega arith, x.2, x.3)

    by : (b : Bool) → p n ≡ b → (k < rank p n) ⊎ (rank p n ≤ k) → (k < rank p n → (a : ℕ) × (a < n) × (p a ≡ true) × (rank p a ≡ k)) → (a : ℕ) × (a < suc n) × (p a ≡ true) × (rank p a ≡ k)
    by b e (inl l) rest = wider (rest l)
    by true e (inr g) rest = let r : rank p (suc n) ≡ rank p n + 1 = rank-suc_true p n e in (n, omega arith, e, omega arith)
    by false e (inr g) rest = let r : rank p (suc n) ≡ rank p n = rank-suc_false p n e in absurd (omega arith)

-- the test's answers below n alone count
pub filter-numbers_below_agree : (p q : ℕ → Bool) (n : ℕ) → ((k : ℕ) → k < n → p k ≡ q k) → filter p (numbers_below n) ≡ filter q (numbers_below n)
filter-numbers_below_agree p q zero e = refl
filter-numbers_below_agree p q (suc n) e =
    let l : n < suc n = omega arith in
    filter-numbers_below_suc p n (q n) (e n l) ∙ ap (λ w. w ++ (if q n then n ∷ [] else [])) (filter-numbers_below_agree p q n (λ k h. let m : k < suc n = omega arith in e k m))
    ∙ sym (filter-numbers_below_suc q n (q n) refl)

pub filter-numbers_below_all : (p : ℕ → Bool) (n : ℕ) → ((k : ℕ) → k < n → p k ≡ true) → filter p (numbers_below n) ≡ numbers_below n
filter-numbers_below_all p zero e = refl
filter-numbers_below_all p (suc n) e =
    let l : n < suc n = omega arith in
    filter-numbers_below_suc p n true (e n l) ∙ ap (λ w. w ++ n ∷ []) (filter-numbers_below_all p n (λ k h. let m : k < suc n = omega arith in e k m))

pub rank-all : (p : ℕ → Bool) (n : ℕ) → ((k : ℕ) → k < n → p k ≡ true) → rank p n ≡ n
rank-all p n e = ap length (filter-numbers_below_all p n e) ∙ length-numbers_below n
