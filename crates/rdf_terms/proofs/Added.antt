-- What stands in a list to which others were added, each where it was lacking.
use Rattle.std.proofs.Common.{◌≡◌, ◌⊎◌, Bool, List, [], ◌∷◌, ◌++◌, inl, inr, refl, sym, ap, subst, ◌∙◌, append-nil, append_assoc, if◌then◌else◌}
use Rattle.std.specs.List.{list_any}
use Rattle.rdf_terms.specs.Lists.{In, AreDistinct}
use Rattle.rdf_terms.specs.Document.{Adds, AddsAll, Extends}
use Rattle.rdf_terms.proofs.Membership.{In-append, In-append_left, In-append_right, AreDistinct-adds, Extends-adds, TellsEqual, inserted}
use Rattle.rdf_terms.proofs.Moving.{absent_before}

module _ {A : Type 0} where
  In-Adds : (old : List A) (x : A) (new : List A) → Adds old x new → In x new
  In-Adds old x new (inl p) = subst (In x) (sym p.0) p.1
  In-Adds old x new (inr p) = subst (In x) (sym p.0) (In-append_right old (x ∷ []) x (inl refl))

  stays-Adds : (old : List A) (x : A) (new : List A) (y : A) → Adds old x new → In y old → In y new
  stays-Adds old x new y (inl p) h = subst (In y) (sym p.0) h
  stays-Adds old x new y (inr p) h = subst (In y) (sym p.0) (In-append_left old (x ∷ []) y h)

  from_In-Adds : (old : List A) (x : A) (new : List A) (y : A) → Adds old x new → In y new → In y old ⊎ (y ≡ x)
  from_In-Adds old x new y (inl p) h = inl (subst (In y) p.0 h)
  from_In-Adds old x new y (inr p) h = elim (In-append old (x ∷ []) y (subst (In y) p.0 h)) [ inl a ↦ inl a | inr b ↦ elim b [ inl e ↦ inr e | inr none ↦ absurd none ] ]

  stays-AddsAll : (old xs new : List A) (y : A) → AddsAll old xs new → In y old → In y new
  stays-AddsAll old [] new y h i = subst (In y) (sym h) i
  stays-AddsAll old (x ∷ xs) new y h i = stays-AddsAll h.0 xs new y h.2 (stays-Adds old x h.0 y h.1 i)

  pub In-AddsAll : (old xs new : List A) (y : A) → AddsAll old xs new → In y xs → In y new
  In-AddsAll old [] new y h i = absurd i
  In-AddsAll old (x ∷ xs) new y h (inl e) = stays-AddsAll h.0 xs new y h.2 (subst (λ z. In z h.0) (sym e) (In-Adds old x h.0 h.1))
  In-AddsAll old (x ∷ xs) new y h (inr i) = In-AddsAll h.0 xs new y h.2 i

  pub from_In-AddsAll : (old xs new : List A) (y : A) → AddsAll old xs new → In y new → In y old ⊎ In y xs
  from_In-AddsAll old [] new y h i = inl (subst (In y) h i)
  from_In-AddsAll old (x ∷ xs) new y h i =
      elim (from_In-AddsAll h.0 xs new y h.2 i) [
        | inl a ↦ elim (from_In-Adds old x h.0 y h.1 a) [ inl b ↦ inl b | inr e ↦ inr (inl e) ]
        | inr b ↦ inr (inr b)
      ]

  -- each once
  pub AreDistinct-AddsAll : (old xs new : List A) → AddsAll old xs new → AreDistinct old → AreDistinct new
  AreDistinct-AddsAll old [] new h d = subst AreDistinct (sym h) d
  AreDistinct-AddsAll old (x ∷ xs) new h d = AreDistinct-AddsAll h.0 xs new h.2 (AreDistinct-adds old x h.0 h.1 d)

  -- in one way
  Adds-same : (old : List A) (x : A) (one other : List A) → Adds old x one → Adds old x other → one ≡ other
  Adds-same old x one other (inl h) (inl k) = h.0 ∙ sym k.0
  Adds-same old x one other (inl h) (inr k) = absurd (k.1 h.1)
  Adds-same old x one other (inr h) (inl k) = absurd (h.1 k.1)
  Adds-same old x one other (inr h) (inr k) = h.0 ∙ sym k.0

  pub AddsAll-same : (old xs one other : List A) → AddsAll old xs one → AddsAll old xs other → one ≡ other
  AddsAll-same old [] one other h k = h ∙ sym k
  AddsAll-same old (x ∷ xs) one other h k =
      let next = Adds-same old x h.0 k.0 h.1 k.1 in
      AddsAll-same k.0 xs one other (subst (λ o. AddsAll o xs one) next h.2) k.2

  pub AddsAll-append : (old xs middle ys new : List A) → AddsAll old xs middle → AddsAll middle ys new → AddsAll old (xs ++ ys) new
  AddsAll-append old [] middle ys new h k = subst (λ o. AddsAll o ys new) h k
  AddsAll-append old (x ∷ xs) middle ys new h k = (h.0, h.1, AddsAll-append h.0 xs middle ys new h.2 k)

  pub AddsAll-extends : (old xs new : List A) → AddsAll old xs new → Extends old new
  AddsAll-extends old [] new h = ([], h ∙ sym (append-nil old))
  AddsAll-extends old (x ∷ xs) new h =
      let one = Extends-adds old x h.0 h.1 in
      let more = AddsAll-extends h.0 xs new h.2 in
      (one.0 ++ more.0, more.1 ∙ ap (λ o. o ++ more.0) one.1 ∙ append_assoc old one.0 more.0)

  -- any can be added, and distinct ones are added as they stand
  pub add_all : (eq : A → A → Bool) → TellsEqual eq → (old xs : List A) → (new : List A) × AddsAll old xs new
  add_all eq tells old [] = (old, refl)
  add_all eq tells old (x ∷ xs) =
      let next : List A = if list_any (eq x) old then old else old ++ x ∷ [] in
      let more = add_all eq tells next xs in
      (more.0, (next, inserted eq tells old next x refl, more.1))

  pub AddsAll-AreDistinct : (old xs : List A) → AreDistinct (old ++ xs) → AddsAll old xs (old ++ xs)
  AddsAll-AreDistinct old [] d = append-nil old
  AddsAll-AreDistinct old (x ∷ xs) d =
      let next = append_assoc old (x ∷ []) xs in
      (old ++ x ∷ [], inr (refl, absent_before old xs x d), subst (AddsAll (old ++ x ∷ []) xs) next (AddsAll-AreDistinct (old ++ x ∷ []) xs (subst AreDistinct (sym next) d)))
