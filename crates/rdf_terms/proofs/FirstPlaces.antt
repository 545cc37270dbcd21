-- Adding each element that is lacking, in turn, comes to the list that has each once, by first place; and to no other.
use Rattle.std.proofs.Common.{◌≡◌, ◌↔◌, ℕ, zero, suc, ◌<◌, ◌≤◌, ◌⊎◌, List, [], ◌∷◌, ◌++◌, length, take, inl, inr, refl, sym, ap, ◌∙◌, subst, append_assoc, append-nil, arith, take_at}
use Rattle.rdf_terms.specs.Lists.{In, AreDistinct}
use Rattle.rdf_terms.specs.Document.{AddsAll, Extends}
use Rattle.rdf_terms.proofs.Membership.{In-append, In-append_left, In-append_right, In-take, Extends-adds}
use Rattle.rdf_terms.proofs.Added.{In-AddsAll, from_In-AddsAll, AreDistinct-AddsAll}
use Rattle.rdf_terms.proofs.Growing.{extends-trans}
use Rattle.rdf_terms.specs.FirstPlaces.{AreByFirstPlace, AddsEachOnce}
use Rattle.rdf_terms.proofs.Moving.{absent_before}

order : (n m : ℕ) → (n ≤ m) ⊎ (m < n)
order n m = grind arith

module _ {A : Type 0} where
  AddsAll-split : (old front rest new : List A) → AddsAll old (front ++ rest) new → (mid : List A) × AddsAll old front mid × AddsAll mid rest new
  AddsAll-split old [] rest new h = (old, refl, h)
  AddsAll-split old (x ∷ front) rest new h = let r = AddsAll-split h.0 front rest new h.2 in (r.0, (h.0, h.1, r.1), r.2)

  AddsAll-extends : (old xs new : List A) → AddsAll old xs new → Extends old new
  AddsAll-extends old [] new h = ([], h ∙ sym (append-nil old))
  AddsAll-extends old (x ∷ xs) new h =
      extends-trans old h.0 new (Extends-adds old x h.0 h.1) (AddsAll-extends h.0 xs new h.2)

  of_second : (xs : List A) (x : A) → In x [] ⊎ In x xs → In x xs
  of_second xs x (inl none) = absurd none
  of_second xs x (inr there) = there

  -- ---- what was added stands by first place

  by_first_place : (xs new : List A) → AddsAll [] xs new → AreByFirstPlace xs new
  by_first_place xs new h = record {
    distinct = AreDistinct-AddsAll [] xs new h tt;
    all = λ x there. of_second xs x (from_In-AddsAll [] xs new x h there);
    fronts = λ front rest e.
        let s = AddsAll-split [] front rest new (subst (λ l. AddsAll [] l new) e h) in
        let p = AddsAll-extends s.0 rest new s.2 in
        let t : take (length s.0) new ≡ s.0 = ap (take (length s.0)) p.1 ∙ take_at s.0 p.0 (length s.0) refl in
        (length s.0, λ x. (λ there. of_second front x (from_In-AddsAll [] front s.0 x s.1 (subst (In x) t there)), λ there. subst (In x) (sym t) (In-AddsAll [] front s.0 x s.1 there)));
  }

  -- ---- what stands by first place was added

  In-take_past : (xs ys : List A) (y : A) (n : ℕ) → length xs < n → In y (take n (xs ++ y ∷ ys))
  In-take_past [] ys y zero h = absurd (omega arith)
  In-take_past [] ys y (suc n) h = inl refl
  In-take_past (x ∷ xs) ys y zero h = absurd (omega arith)
  In-take_past (x ∷ xs) ys y (suc n) h = inr (In-take_past xs ys y n (omega arith))

  In-take_within : (xs ys : List A) (x : A) (n : ℕ) → n ≤ length xs → In x (take n (xs ++ ys)) → In x xs
  In-take_within xs ys x zero h there = absurd there
  In-take_within [] ys x (suc n) h there = absurd (omega arith)
  In-take_within (z ∷ xs) ys x (suc n) h (inl e) = inl e
  In-take_within (z ∷ xs) ys x (suc n) h (inr there) = inr (In-take_within xs ys x n (omega arith) there)

  abbrev Fronts : List A → List A → List A → Type 0
  Fronts old xs new = (front rest : List A) → xs ≡ front ++ rest → (n : ℕ) × ((x : A) → In x (take n new) ↔ In x (old ++ front))

  abbrev AllIn : List A → List A → Type 0
  AllIn new all = (x : A) → In x new → In x all

  nothing_more : (old more new : List A) → AreDistinct new → new ≡ old ++ more → AllIn new old → new ≡ old
  nothing_more old [] new d e all = e ∙ append-nil old
  nothing_more old (y ∷ more) new d e all = absurd (absent_before old more y (subst AreDistinct e d) (all y (subst (In y) (sym e) (In-append_right old (y ∷ more) y (inl refl)))))

  -- an element that old has makes no difference
  without_known : (old xs : List A) (x z : A) → In x old → In z (old ++ x ∷ xs) → In z (old ++ xs)
  without_known old xs x z known there = by (In-append old (x ∷ xs) z there)
    where
      by : In z old ⊎ In z (x ∷ xs) → In z (old ++ xs)
      by (inl a) = In-append_left old xs z a
      by (inr (inl e)) = In-append_left old xs z (subst (λ w. In w old) (sym e) known)
      by (inr (inr b)) = In-append_right old xs z b

  with_one : (old xs : List A) (x z : A) → In z (old ++ xs) → In z (old ++ x ∷ xs)
  with_one old xs x z there = elim (In-append old xs z there) [ inl a ↦ In-append_left old (x ∷ xs) z a | inr b ↦ In-append_right old (x ∷ xs) z (inr b) ]

  module _ (x : A) (xs new : List A) (d : AreDistinct new) (rest_added : (next : List A) → Extends next new → AllIn new (next ++ xs) → Fronts next xs new → AddsAll next xs new) (old : List A)
      (all : AllIn new (old ++ x ∷ xs)) (fronts : Fronts old (x ∷ xs) new) where
    known : In x old → Extends old new → AddsAll old (x ∷ xs) new
    known there e = (
      old,
      inl (refl, there),
      rest_added old e (λ z i. without_known old xs x z there (all z i)) (λ front rest s.
          let r = fronts (x ∷ front) rest (ap (λ l. x ∷ l) s) in
          (r.0, λ z. (λ i. without_known old front x z there ((r.1 z).0 i), λ i. (r.1 z).1 (with_one old front x z i)))),
    )

    lacking : (more : List A) → new ≡ old ++ x ∷ more → AddsAll old (x ∷ xs) new
    lacking more e = (
      old ++ x ∷ [],
      inr (refl, absent_before old more x (subst AreDistinct e d)),
      rest_added (old ++ x ∷ []) (more, e ∙ sym (append_assoc old (x ∷ []) more))
          (λ z i. subst (In z) (sym (append_assoc old (x ∷ []) xs)) (all z i))
          (λ front rest s.
          let r = fronts (x ∷ front) rest (ap (λ l. x ∷ l) s) in
          (r.0, λ z. (λ i. subst (In z) (sym (append_assoc old (x ∷ []) front)) ((r.1 z).0 i), λ i. (r.1 z).1 (subst (In z) (append_assoc old (x ∷ []) front) i)))),
    )

    first_of : (more : List A) → new ≡ old ++ more → (n : ℕ) → ((z : A) → In z (take n new) ↔ In z (old ++ x ∷ [])) → (n ≤ length old) ⊎ (length old < n) → AddsAll old (x ∷ xs) new
    first_of more e n front (inl low) =
        known (In-take_within old more x n low (subst (λ l. In x (take n l)) e ((front x).1 (In-append_right old (x ∷ []) x (inl refl))))) (more, e)
    first_of [] e n front (inr high) = known (subst (In x) (e ∙ append-nil old) (In-take n new x ((front x).1 (In-append_right old (x ∷ []) x (inl refl))))) ([], e)
    first_of (y ∷ more) e n front (inr high) = by (In-append old (x ∷ []) y ((front y).0 (subst (λ l. In y (take n l)) (sym e) (In-take_past old more y n high))))
      where
        by : In y old ⊎ In y (x ∷ []) → AddsAll old (x ∷ xs) new
        by (inl there) = absurd (absent_before old more y (subst AreDistinct e d) there)
        by (inr (inl s)) = lacking more (e ∙ ap (λ w. old ++ w ∷ more) s)
        by (inr (inr none)) = absurd none

  added : (old xs new : List A) → AreDistinct new → Extends old new → AllIn new (old ++ xs) → Fronts old xs new → AddsAll old xs new
  added old [] new d e all fronts = nothing_more old e.0 new d e.1 (λ x i. subst (In x) (append-nil old) (all x i))
  added old (x ∷ xs) new d e all fronts =
      let f = fronts (x ∷ []) xs refl in
      first_of x xs new d (λ next. added next xs new d) old all fronts e.0 e.1 f.0 f.1 (order f.0 (length old))

pub adds_each_once : (A : Type 0) → AddsEachOnce A
adds_each_once A xs new = (by_first_place xs new, λ p. added [] xs new p.distinct (new, refl) p.all p.fronts)
