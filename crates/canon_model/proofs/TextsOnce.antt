-- A text of an ascending list that differs from the next one does not come again.
use Rattle.std.proofs.Common.{List, false, inl, inr, sym, true, true≢false, subst, ◌∙◌, ◌∷◌, ◌≡◌, []}
use Rattle.std.specs.Str.{bytes_eq}
use Rattle.std.proofs.lemmas.Slice.Eq.{bytes_eq-Decides}
use Rattle.rdf_terms.proofs.Common.{Ascends, is_at_most-antisymm, is_at_most-trans, In, Text, is_at_most}

pub different : (x y : Text) → bytes_eq x y ≡ false → ¬ (x ≡ y)
different x y f e = true≢false (sym ((bytes_eq-Decides x y).1 e) ∙ f)

at_most-all : (y z : Text) (ys : List Text) → Ascends (y ∷ ys) → In z ys → is_at_most y z ≡ true
at_most-all y z [] a h = absurd h
at_most-all y z (w ∷ ys) a (inl e) = subst (λ v. is_at_most y v ≡ true) (sym e) a.0
at_most-all y z (w ∷ ys) a (inr h) = is_at_most-trans y w z a.0 (at_most-all w z ys a.1 h)

pub not_again : (x y : Text) (ys : List Text) → Ascends (x ∷ y ∷ ys) → bytes_eq x y ≡ false → ¬ (In x (y ∷ ys))
not_again x y ys a f (inl e) = different x y f e
not_again x y ys a f (inr h) = different x y f (is_at_most-antisymm x y a.0 (at_most-all y x ys a.1 h))
