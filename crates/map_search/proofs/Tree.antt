-- All maps of first places in the order of the search, and those that it has still to try.
use Rattle.std.proofs.lemmas.Bool.{cases_order}
use Rattle.std.proofs.Common.{◌≡◌, ℕ, zero, suc, ◌+◌, ◌-◌, ◌<◌, ◌≤◌, ◌⊎◌, Bool, true, false, if◌then◌else◌, List, [], ◌∷◌, ◌++◌, reverse, refl, sym, ap, ◌∙◌, inl, inr, arith, append_assoc, true≢false}
use Rattle.map_search.specs.Maps.{IsNext, NoneFits}

module _ (bound : ℕ) (fits : List ℕ → ℕ → Bool) where
  -- the maps behind a path, given what there is behind the path with one image more
  unfoldable pub branches : (List ℕ → List (List ℕ)) → List ℕ → ℕ → ℕ → List (List ℕ)
  branches sub path from zero = []
  branches sub path from (suc left) = (if fits (reverse path) from then sub (from ∷ path) else []) ++ branches sub path (suc from) left

  -- the path, and all that begin with it and have at most so many places more
  unfoldable pub visits : ℕ → List ℕ → List (List ℕ)
  visits zero path = path ∷ []
  visits (suc n) path = path ∷ branches (visits n) path 0 bound

  -- what is left to try when the search comes back to where the path leads from; r places follow behind the next one
  unfoldable pub above : ℕ → List ℕ → List (List ℕ)
  above r [] = []
  above r (x ∷ below) = branches (visits (suc r)) below (suc x) (bound - suc x) ++ above (suc r) below

  -- what is left to try, where the next place may have images from `from` on
  unfoldable pub pending : ℕ → List ℕ → ℕ → List (List ℕ)
  pending r path from = branches (visits r) path from (bound - from) ++ above r path

  branches-none : (sub : List ℕ → List (List ℕ)) (path : List ℕ) (from left : ℕ) → ((s : ℕ) → from ≤ s → s < from + left → ¬ (fits (reverse path) s ≡ true)) → branches sub path from left ≡ []
  unfolding branches
  branches-none sub path from zero h = refl
  branches-none sub path from (suc left) h = by (branches-none sub path (suc from) left (λ s a b. h s (omega arith) (omega arith))) (fits (reverse path) from) refl
    where
      by : branches sub path (suc from) left ≡ [] → (b : Bool) → fits (reverse path) from ≡ b → (if fits (reverse path) from then sub (from ∷ path) else []) ++ branches sub path (suc from) left ≡ []
      by ih true e = absurd (h from (omega arith) (omega arith) e)
      by ih false e = rw e ih

  branches-next : (sub : List ℕ → List (List ℕ)) (path : List ℕ) (from left t rest : ℕ) → from + left ≡ suc t + rest → from ≤ t → fits (reverse path) t ≡ true
      → ((s : ℕ) → from ≤ s → s < t → ¬ (fits (reverse path) s ≡ true)) → branches sub path from left ≡ sub (t ∷ path) ++ branches sub path (suc t) rest
  unfolding branches
  branches-next sub path from zero t rest e le f least = absurd (omega arith)
  branches-next sub path from (suc left) t rest e le f least =
      by (λ l. branches-next sub path (suc from) left t rest (omega arith) (omega arith) f (λ s a b. least s (omega arith) b)) (cases_order from t) (fits (reverse path) from) refl
    where
      by : (from < t → branches sub path (suc from) left ≡ sub (t ∷ path) ++ branches sub path (suc t) rest) → (from ≡ t) ⊎ ((from < t) ⊎ (t < from)) → (b : Bool) → fits (reverse path) from ≡ b
          → (if fits (reverse path) from then sub (from ∷ path) else []) ++ branches sub path (suc from) left ≡ sub (t ∷ path) ++ branches sub path (suc t) rest
      by ih (inr (inl l)) true g = absurd (least from (omega arith) l g)
      by ih (inr (inl l)) false g = rw g (ih l)
      by ih (inl s) true g =
          let same : left ≡ rest = omega arith in
          rw g (rw (s, same) refl)
      by ih (inl s) false g = absurd (true≢false (sym f ∙ ap (fits (reverse path)) (sym s) ∙ g))
      by ih (inr (inr l)) b g = absurd (omega arith)

  pub pending-next : (r : ℕ) (path : List ℕ) (from t : ℕ) → IsNext bound (fits (reverse path)) from t → pending r path from ≡ visits r (t ∷ path) ++ pending r path (suc t)
  unfolding pending
  pending-next r path from t n =
      let a : from ≤ t = n.behind in
      let b : t < bound = n.within in
      let e : from + (bound - from) ≡ suc t + (bound - suc t) = omega arith in
      ap (λ w. w ++ above r path) (branches-next (visits r) path from (bound - from) t (bound - suc t) e a n.fit n.least)
      ∙ append_assoc (visits r (t ∷ path)) (branches (visits r) path (suc t) (bound - suc t)) (above r path)

  pub pending-none : (r : ℕ) (path : List ℕ) (from : ℕ) → NoneFits bound (fits (reverse path)) from → pending r path from ≡ above r path
  unfolding pending
  pending-none r path from n = ap (λ w. w ++ above r path) (branches-none (visits r) path from (bound - from) (λ s a b. n s a (omega arith)))

  -- the next map is whole
  pub pending-whole : (path : List ℕ) (from t : ℕ) → IsNext bound (fits (reverse path)) from t → pending 0 path from ≡ (t ∷ path) ∷ pending 0 path (suc t)
  unfolding visits
  pending-whole path from t n = pending-next 0 path from t n

  -- the next map goes on
  pub pending-deeper : (r : ℕ) (path : List ℕ) (from t : ℕ) → IsNext bound (fits (reverse path)) from t → pending (suc r) path from ≡ (t ∷ path) ∷ pending r (t ∷ path) 0
  unfolding visits pending above
  pending-deeper r path from t n =
      let e : bound ≡ bound - 0 = omega arith in
      pending-next (suc r) path from t n ∙ ap (λ w. (t ∷ path) ∷ (branches (visits r) (t ∷ path) 0 w ++ above r (t ∷ path))) e

  pub pending-back : (r : ℕ) (x : ℕ) (below : List ℕ) (from : ℕ) → NoneFits bound (fits (reverse (x ∷ below))) from → pending r (x ∷ below) from ≡ pending (suc r) below (suc x)
  unfolding pending above
  pending-back r x below from n = pending-none r (x ∷ below) from n

  pub pending-end : (r from : ℕ) → NoneFits bound (fits (reverse [])) from → pending r [] from ≡ []
  unfolding above
  pending-end r from n = pending-none r [] from n

  pub visits-start : (r : ℕ) → visits (suc r) [] ≡ [] ∷ pending r [] 0
  unfolding visits pending above
  visits-start r =
      let e : bound ≡ bound - 0 = omega arith in
      ap (λ w. [] ∷ w) (ap (λ w. branches (visits r) [] 0 w) e ∙ sym (nil (branches (visits r) [] 0 (bound - 0))))
    where
      nil : (xs : List (List ℕ)) → xs ++ [] ≡ xs
      nil [] = refl
      nil (x ∷ xs) = ap (λ w. x ∷ w) (nil xs)

  pub visits-first : (n : ℕ) (path : List ℕ) → (more : List (List ℕ)) × (visits n path ≡ path ∷ more)
  unfolding visits
  visits-first zero path = ([], refl)
  visits-first (suc n) path = (branches (visits n) path 0 bound, refl)
