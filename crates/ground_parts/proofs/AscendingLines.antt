-- Sorted texts ascend strictly where they are distinct.
use Rattle.std.proofs.Common.{Bool, List, [], false, inl, inr, not, refl, subst, sym, true, ◌∙◌, ◌∷◌, ◌≡◌}
use Rattle.rdf_terms.proofs.Common.{AreDistinct, AreDistinct-Permutes, AreStrictlyAscending, Ascends, Ascends-sorted, In, Text, is_at_most, is_at_most-antisymm, is_at_most-trans, is_before, sorted, sorted-permutes}
use Rattle.rdf_terms.proofs.TextOrder.{is_before-is_at_most}

first_at_most : (x : Text) (xs : List Text) → Ascends (x ∷ xs) → (y : Text) → In y xs → is_at_most x y ≡ true
first_at_most x [] a y h = absurd h
first_at_most x (z ∷ xs) a y (inl e) = subst (λ w. is_at_most x w ≡ true) (sym e) a.0
first_at_most x (z ∷ xs) a y (inr h) = is_at_most-trans x z y a.0 (first_at_most z xs a.1 y h)

before_other : (x y : Text) → is_at_most x y ≡ true → ¬ (x ≡ y) → is_before x y ≡ true
before_other x y h different = is_before-is_at_most x y ∙ by (is_at_most y x) refl
  where
    by : (b : Bool) → is_at_most y x ≡ b → not b ≡ true
    by true e = absurd (different (is_at_most-antisymm x y h e))
    by false e = refl

strictly : (xs : List Text) → Ascends xs → AreDistinct xs → AreStrictlyAscending xs
strictly [] a d = tt
strictly (x ∷ xs) a d =
    ((λ y h. before_other x y (first_at_most x xs a y h) (λ e. d.0 (subst (λ w. In w xs) (sym e) h))), strictly xs (rest xs a) d.1)
  where
    rest : (ys : List Text) → Ascends (x ∷ ys) → Ascends ys
    rest [] b = tt
    rest (y ∷ ys) b = b.1

pub sorted-strictly : (xs : List Text) → AreDistinct xs → AreStrictlyAscending (sorted xs)
sorted-strictly xs d = strictly (sorted xs) (Ascends-sorted xs) (AreDistinct-Permutes (sorted-permutes xs) d)
