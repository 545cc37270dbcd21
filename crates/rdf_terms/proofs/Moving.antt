-- A list that is filled, one by one, with what is made of the elements of another.
use Rattle.std.proofs.Common.{◌≡◌, ◌<◌, List, [], ◌∷◌, ◌++◌, length, inl, inr, sym, ap, subst, ◌∙◌, arith, append_assoc, append-nil, length-append}
use Rattle.rdf_terms.specs.Lists.{In, AreDistinct}
use Rattle.rdf_terms.specs.Document.{Adds}
use Rattle.rdf_terms.proofs.Membership.{In-append_right}

module _ {A : Type 0} where
  -- an element behind the front of a distinct list is not in the front
  pub absent_before : (front rest : List A) (x : A) → AreDistinct (front ++ x ∷ rest) → ¬ (In x front)
  absent_before [] rest x d h = h
  absent_before (y ∷ ys) rest x d (inl e) = d.0 (In-append_right ys (x ∷ rest) y (inl (sym e)))
  absent_before (y ∷ ys) rest x d (inr h) = absent_before ys rest x d.1 h

  module _ (all front left rest new : List A) (x : A) where
    pub moved : AreDistinct all → front ++ left ≡ all → left ≡ x ∷ rest → Adds front x new → new ++ rest ≡ all
    moved d e s (inl p) = absurd (absent_before front rest x (subst AreDistinct (sym e ∙ ap (λ l. front ++ l) s) d) p.1)
    moved d e s (inr p) = ap (λ l. l ++ rest) p.0 ∙ append_assoc front (x ∷ []) rest ∙ ap (λ l. front ++ l) (sym s) ∙ e

    pub front_shorter : front ++ left ≡ all → left ≡ x ∷ rest → length front < length all
    front_shorter e s = omega (arith, ap length e, length-append front left, ap length s)

  pub moved_all : (all front left : List A) → front ++ left ≡ all → left ≡ [] → front ≡ all
  moved_all all front left e n = sym (ap (λ l. front ++ l) n ∙ append-nil front) ∙ e
