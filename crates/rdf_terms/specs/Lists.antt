-- Lists: membership, distinct elements, the same elements in another order, and texts in byte order.
use Rattle.std.specs.Prelude.{◌≡◌, ℕ, zero, suc, Bool, not, ◌⊎◌, List, [], ◌∷◌, ◌++◌, if◌then◌else◌}
use Rattle.std.specs.Cmp.Lexicographic.{slice_cmp}
use Rattle.std.specs.List.{concat}
use Rattle.std.specs.Ordering.{nat_cmp, is_gt, is_lt}

-- x is one of the elements
abbrev pub In : {A : Type 0} → A → List A → Type 0
In x [] = ⊥
In x (y ∷ ys) = (x ≡ y) ⊎ In x ys

-- no element stands twice
abbrev pub AreDistinct : {A : Type 0} → List A → Type 0
AreDistinct [] = Unit {0}
AreDistinct (x ∷ xs) = (¬ (In x xs)) × AreDistinct xs

-- the numbers below n, ascending
abbrev pub numbers_below : ℕ → List ℕ
numbers_below zero = []
numbers_below (suc n) = numbers_below n ++ n ∷ []

-- the same elements, each as often, in some order
pub data Permutes {A : Type 0} : List A → List A → Type 0 where
  permutes_nil : Permutes [] []
  permutes_cons : {x : A} {xs ys : List A} → Permutes xs ys → Permutes (x ∷ xs) (x ∷ ys)
  permutes_swap : {x y : A} {xs : List A} → Permutes (x ∷ y ∷ xs) (y ∷ x ∷ xs)
  permutes_trans : {xs ys zs : List A} → Permutes xs ys → Permutes ys zs → Permutes xs zs

-- a text as the list of its bytes, in UTF-8
abbrev pub Text : Type 0
Text = List ℕ

-- the order of bytes, which in UTF-8 is the order of code points
abbrev pub is_before : Text → Text → Bool
is_before a b = is_lt (slice_cmp nat_cmp a b)

abbrev pub is_at_most : Text → Text → Bool
is_at_most a b = not (is_gt (slice_cmp nat_cmp a b))

-- the texts in byte order
abbrev pub insert_sorted : Text → List Text → List Text
insert_sorted x [] = x ∷ []
insert_sorted x (y ∷ ys) = if is_at_most x y then x ∷ y ∷ ys else y ∷ insert_sorted x ys

abbrev pub sorted : List Text → List Text
sorted [] = []
sorted (x ∷ xs) = insert_sorted x (sorted xs)

-- the texts one after the other
abbrev pub joined : List Text → Text
joined texts = concat texts
