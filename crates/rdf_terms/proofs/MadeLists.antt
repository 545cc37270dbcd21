-- Lists that are made of others: mapped, filtered, joined, parted. Their members, and what holds of each.
use Rattle.std.proofs.Common.{◌≡◌, ℕ, ◌-◌, ◌<◌, ◌⊎◌, Bool, true, false, List, [], ◌∷◌, ◌++◌, map, filter, flat_map, length, take, drop, get_or, All, inl, inr, refl, sym, ap, subst, ◌∙◌, true≢false, arith, if◌then◌else◌, take_all, length-drop, Some}
use Rattle.std.proofs.lemmas.List.Elements.{All-nil, All-cons, All-head, All-tail}
use Rattle.std.proofs.lemmas.Option.{slice_get-get_or, slice_get_within, get_or_from_slice_get}
use Rattle.rdf_terms.specs.Lists.{In, AreDistinct}
use Rattle.rdf_terms.proofs.Membership.{In-at, place_in, one_place, from_In-map, In-append, In-append_left, In-append_right}

-- ---- places

module _ {A : Type 0} where
  pub In-get_or : (xs : List A) (k : ℕ) (d : A) → k < length xs → In (get_or xs k d) xs
  In-get_or xs k d h = In-at xs k (get_or xs k d) (slice_get-get_or xs k d h)

  pub place_within : (xs : List A) (x d : A) → In x xs → (k : ℕ) × (k < length xs) × (get_or xs k d ≡ x)
  place_within xs x d h = let p = place_in xs x h in (p.0, slice_get_within xs p.0 x p.1, get_or_from_slice_get xs p.0 x d p.1)

  pub one_place_within : (xs : List A) (j k : ℕ) (d : A) → AreDistinct xs → j < length xs → k < length xs → get_or xs j d ≡ get_or xs k d → j ≡ k
  one_place_within xs j k d once hj hk e = one_place xs j k (get_or xs k d) once (slice_get-get_or xs j d hj ∙ ap Some e) (slice_get-get_or xs k d hk)

  -- ---- what holds of each

  pub each-from_All : (P : A → Type 0) (xs : List A) (x : A) → All P xs → In x xs → P x
  each-from_All P [] x h there = absurd there
  each-from_All P (y ∷ ys) x h (inl e) = subst P (sym e) (All-head P y ys h)
  each-from_All P (y ∷ ys) x h (inr there) = each-from_All P ys x (All-tail P y ys h) there

  pub All-from_each : (P : A → Type 0) (xs : List A) → ((x : A) → In x xs → P x) → All P xs
  All-from_each P [] h = All-nil P
  All-from_each P (x ∷ xs) h = All-cons P x xs (h x (inl refl)) (All-from_each P xs (λ y i. h y (inr i)))

  -- ---- filtered

  pub In-filter : (test : A → Bool) (x : A) (xs : List A) → In x xs → test x ≡ true → In x (filter test xs)
  In-filter test x [] h e = h
  In-filter test x (y ∷ ys) h e = by (test y) refl h (λ there. In-filter test x ys there e)
    where
      by : (b : Bool) → test y ≡ b → (x ≡ y) ⊎ In x ys → (In x ys → In x (filter test ys)) → In x (if b then y ∷ filter test ys else filter test ys)
      by true is (inl s) rest = inl s
      by true is (inr there) rest = inr (rest there)
      by false is (inl s) rest = absurd (true≢false (sym e ∙ ap test s ∙ is))
      by false is (inr there) rest = rest there

  pub from_In-filter : (test : A → Bool) (x : A) (xs : List A) → In x (filter test xs) → In x xs × (test x ≡ true)
  from_In-filter test x [] h = absurd h
  from_In-filter test x (y ∷ ys) h = by (test y) refl h (from_In-filter test x ys)
    where
      by : (b : Bool) → test y ≡ b → In x (if b then y ∷ filter test ys else filter test ys) → (In x (filter test ys) → In x ys × (test x ≡ true)) → In x (y ∷ ys) × (test x ≡ true)
      by true is (inl s) rest = (inl s, ap test s ∙ is)
      by true is (inr there) rest = let r = rest there in (inr r.0, r.1)
      by false is there rest = let r = rest there in (inr r.0, r.1)

  pub AreDistinct-filter : (test : A → Bool) (xs : List A) → AreDistinct xs → AreDistinct (filter test xs)
  AreDistinct-filter test [] d = tt
  AreDistinct-filter test (y ∷ ys) d = by (test y) (AreDistinct-filter test ys d.1)
    where
      by : (b : Bool) → AreDistinct (filter test ys) → AreDistinct (if b then y ∷ filter test ys else filter test ys)
      by true rest = (λ h. d.0 (from_In-filter test y ys h).0, rest)
      by false rest = rest

  -- ---- appended, and parted

  pub AreDistinct-append : (xs ys : List A) → AreDistinct xs → AreDistinct ys → ((x : A) → In x xs → ¬ (In x ys)) → AreDistinct (xs ++ ys)
  AreDistinct-append [] ys d e apart = e
  AreDistinct-append (x ∷ xs) ys d e apart =
      (λ h. elim (In-append xs ys x h) [ inl l ↦ d.0 l | inr r ↦ apart x (inl refl) r ], AreDistinct-append xs ys d.1 e (λ y h. apart y (inr h)))

  pub rest_all : (m : ℕ) (xs : List A) → take (length xs - m) (drop m xs) ≡ drop m xs
  rest_all m xs = take_all (length xs - m) (drop m xs) (omega (arith, length-drop m xs))

-- ---- mapped

module _ {A B : Type 0} where
  pub AreDistinct-map : (f : A → B) (xs : List A) → ((x y : A) → In x xs → In y xs → f x ≡ f y → x ≡ y) → AreDistinct xs → AreDistinct (map f xs)
  AreDistinct-map f [] h d = tt
  AreDistinct-map f (x ∷ xs) h d = (apart, AreDistinct-map f xs (λ a b i j e. h a b (inr i) (inr j) e) d.1)
    where
      apart : ¬ (In (f x) (map f xs))
      apart there = let p = from_In-map f xs (f x) there in d.0 (subst (λ y. In y xs) (sym (h x p.0 (inl refl) (inr p.1) p.2)) p.1)

  pub map-agree : (f g : A → B) (xs : List A) → ((x : A) → In x xs → f x ≡ g x) → map f xs ≡ map g xs
  map-agree f g [] h = refl
  map-agree f g (x ∷ xs) h = λ i. h x (inl refl) i ∷ map-agree f g xs (λ y j. h y (inr j)) i

  -- ---- joined

  pub In-flat_map : (f : A → List B) (x : A) (y : B) (xs : List A) → In x xs → In y (f x) → In y (flat_map f xs)
  In-flat_map f x y [] h there = absurd h
  In-flat_map f x y (z ∷ xs) (inl e) there = In-append_left (f z) (flat_map f xs) y (subst (λ w. In y (f w)) e there)
  In-flat_map f x y (z ∷ xs) (inr h) there = In-append_right (f z) (flat_map f xs) y (In-flat_map f x y xs h there)

  pub from_In-flat_map : (f : A → List B) (y : B) (xs : List A) → In y (flat_map f xs) → (x : A) × In x xs × In y (f x)
  from_In-flat_map f y [] h = absurd h
  from_In-flat_map f y (z ∷ xs) h = by (In-append (f z) (flat_map f xs) y h) (from_In-flat_map f y xs)
    where
      by : In y (f z) ⊎ In y (flat_map f xs) → (In y (flat_map f xs) → (x : A) × In x xs × In y (f x)) → (x : A) × In x (z ∷ xs) × In y (f x)
      by (inl here) rest = (z, inl refl, here)
      by (inr later) rest = let r = rest later in (r.0, inr r.1, r.2)

pub map-map : {A B C : Type 0} (f : B → C) (g : A → B) (xs : List A) → map f (map g xs) ≡ map (λ x. f (g x)) xs
map-map f g [] = refl
map-map f g (x ∷ xs) = ap (λ w. f (g x) ∷ w) (map-map f g xs)

pub map-same : {A : Type 0} (f : A → A) (xs : List A) → ((x : A) → In x xs → f x ≡ x) → map f xs ≡ xs
map-same f [] h = refl
map-same f (x ∷ xs) h = λ i. h x (inl refl) i ∷ map-same f xs (λ y j. h y (inr j)) i
