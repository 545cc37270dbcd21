-- Tests that hold of all elements of a list.
use Rattle.std.proofs.Common.{◌≡◌, ℕ, Bool, true, false, ◌&&◌, ◌==◌, List, [], ◌∷◌, inl, inr, refl, sym, subst}
use Rattle.std.proofs.lemmas.Bool.{eqb-true, or_cases}
use Rattle.rdf_terms.specs.Lists.{In}
use Rattle.trig_grammar.specs.Beginnings.{holds}

-- ---- tests

abbrev pub implies : Bool → Bool → Bool
implies false b = true
implies true b = b

abbrev pub every : {A : Type 0} → (A → Bool) → List A → Bool
every f [] = true
every f (x ∷ xs) = f x && every f xs

pub modus : (a b : Bool) → implies a b ≡ true → a ≡ true → b ≡ true
modus false b h g = cc
modus true b h g = h

pub and_left : (a b : Bool) → (a && b) ≡ true → a ≡ true
and_left false b h = h
and_left true b h = refl

pub and_right : (a b : Bool) → (a && b) ≡ true → b ≡ true
and_right false b h = cc
and_right true b h = h

pub every_in : {A : Type 0} (f : A → Bool) (xs : List A) (x : A) → every f xs ≡ true → In x xs → f x ≡ true
every_in f [] x h i = absurd i
every_in f (y ∷ ys) x h (inl e) = subst (λ z. f z ≡ true) (sym e) (and_left (f y) (every f ys) h)
every_in f (y ∷ ys) x h (inr i) = every_in f ys x (and_right (f y) (every f ys) h) i

pub every_held : (f : ℕ → Bool) (ks : List ℕ) (k : ℕ) → every f ks ≡ true → holds k ks ≡ true → f k ≡ true
every_held f [] k h i = cc
every_held f (j ∷ js) k h i = elim (or_cases (j == k) (holds k js) i) [
  | inl e ↦ subst (λ z. f z ≡ true) (eqb-true j k e) (and_left (f j) (every f js) h)
  | inr g ↦ every_held f js k (and_right (f j) (every f js) h) g
]
