-- Lists whose images are the same up to order.
use Rattle.std.proofs.Common.{◌≡◌, List, [], ◌∷◌, map, refl, sym, inl, inr}
use Rattle.rdf_terms.proofs.Common.{In, Permutes, permutes_nil, permutes_cons, permutes_swap, permutes_trans, In-Permutes, Permutes-map, Permutes-from_equal, Permutes-sym}

module _ {A C : Type 0} (f : A → C) where
  -- images in another order are the images of the list in another order
  pub record Unmapped (xs : List A) (vs : List C) : Type 0 where
    pub moved : List A
    pub images : vs ≡ map f moved
    pub permutes : Permutes xs moved

  pub unmapped : {us vs : List C} → Permutes us vs → (xs : List A) → us ≡ map f xs → Unmapped xs vs
  unmapped permutes_nil [] e = record { moved = []; images = refl; permutes = permutes_nil }
  unmapped permutes_nil (x ∷ xs) e = cc
  unmapped (permutes_cons {x = u} {xs = us} {ys = vs} p) [] e = cc
  unmapped (permutes_cons {x = u} {xs = us} {ys = vs} p) (x ∷ xs) e =
      let head : u ≡ f x = cc in
      let tail : us ≡ map f xs = cc in
      let r = unmapped p xs tail in
      record { moved = x ∷ r.moved; images = λ i. head i ∷ r.images i; permutes = permutes_cons r.permutes }
  unmapped (permutes_swap {x = u} {y = v} {xs = us}) [] e = cc
  unmapped (permutes_swap {x = u} {y = v} {xs = us}) (x ∷ []) e = cc
  unmapped (permutes_swap {x = u} {y = v} {xs = us}) (x ∷ (y ∷ xs)) e =
      let head : u ≡ f x = cc in
      let next : v ≡ f y = cc in
      let tail : us ≡ map f xs = cc in
      record { moved = y ∷ x ∷ xs; images = λ i. next i ∷ head i ∷ tail i; permutes = permutes_swap }
  unmapped (permutes_trans p q) xs e =
      let r = unmapped p xs e in
      let s = unmapped q r.moved r.images in
      record { moved = s.moved; images = s.images; permutes = permutes_trans r.permutes s.permutes }

module _ {A B C : Type 0} (f : A → C) (g : B → C) (h : A → B) where
  pointwise : (xs : List A) (ys : List B) → ((x : A) (y : B) → In x xs → In y ys → f x ≡ g y → h x ≡ y) → map f xs ≡ map g ys → map h xs ≡ ys
  pointwise [] [] same e = refl
  pointwise [] (y ∷ ys) same e = cc
  pointwise (x ∷ xs) [] same e = cc
  pointwise (x ∷ xs) (y ∷ ys) same e =
      let head : f x ≡ g y = cc in
      let tail : map f xs ≡ map g ys = cc in
      let a = same x y (inl refl) (inl refl) head in
      let b = pointwise xs ys (λ u v i j. same u v (inr i) (inr j)) tail in
      λ i. a i ∷ b i

  -- what equal images have in common carries the one list to the other
  pub Permutes-matched : (xs : List A) (ys : List B) → ((x : A) (y : B) → In x xs → In y ys → f x ≡ g y → h x ≡ y) → Permutes (map f xs) (map g ys) → Permutes (map h xs) ys
  Permutes-matched xs ys same p =
      let r = unmapped f p xs refl in
      permutes_trans (Permutes-map h r.permutes)
      (Permutes-from_equal (pointwise r.moved ys (λ x y i j. same x y (In-Permutes x (Permutes-sym r.permutes) i) j) (sym r.images)))
