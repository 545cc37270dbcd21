-- The maps that a search goes through are exactly those that fit.
use Rattle.std.proofs.Common.{◌≡◌, ℕ, zero, suc, ◌+◌, ◌<◌, ◌≤◌, ◌⊎◌, ◌==◌, Bool, true, false, if◌then◌else◌, List, [], ◌∷◌, ◌++◌, length, reverse, refl, sym, ap, ◌∙◌, subst, inl, inr, arith, true≢false, eq-eqb}
use Rattle.std.proofs.lemmas.Bool.{eqb-true}
use Rattle.rdf_terms.proofs.Common.{In, In-append, In-append_left, In-append_right}
use Rattle.map_search.specs.Maps.{FitBackwards}
use Rattle.map_search.proofs.Tree.{branches, visits, visits-first}

module _ (bound : ℕ) (fits : List ℕ → ℕ → Bool) where
  pub from_branches : (sub : List ℕ → List (List ℕ)) (path q : List ℕ) (from left : ℕ) → In q (branches bound fits sub path from left)
      → (s : ℕ) × (from ≤ s) × (s < from + left) × (fits (reverse path) s ≡ true) × In q (sub (s ∷ path))
  unfolding branches
  from_branches sub path q from zero h = absurd h
  from_branches sub path q from (suc left) h =
      by (from_branches sub path q (suc from) left) (fits (reverse path) from) refl
      (In-append (if fits (reverse path) from then sub (from ∷ path) else []) (branches bound fits sub path (suc from) left) q h)
    where
      by : (In q (branches bound fits sub path (suc from) left) → (s : ℕ) × (suc from ≤ s) × (s < suc from + left) × (fits (reverse path) s ≡ true) × In q (sub (s ∷ path))) → (b : Bool)
          → fits (reverse path) from ≡ b → In q (if fits (reverse path) from then sub (from ∷ path) else []) ⊎ In q (branches bound fits sub path (suc from) left)
          → (s : ℕ) × (from ≤ s) × (s < from + suc left) × (fits (reverse path) s ≡ true) × In q (sub (s ∷ path))
      by ih b e (inr i) = let p = ih i in (p.0, (let l = p.1 in omega arith), (let l = p.2 in omega arith), p.3, p.4)
      by ih true e (inl i) = let j = rw e at i in (from, omega arith, omega arith, e, j)
      by ih false e (inl i) = let j = rw e at i in absurd j

  to_branches : (sub : List ℕ → List (List ℕ)) (path q : List ℕ) (from left s : ℕ) → from ≤ s → s < from + left → fits (reverse path) s ≡ true → In q (sub (s ∷ path))
      → In q (branches bound fits sub path from left)
  unfolding branches
  to_branches sub path q from zero s a b f i = absurd (omega arith)
  to_branches sub path q from (suc left) s a b f i = by (λ l. to_branches sub path q (suc from) left s l (omega arith) f i) (from == s) refl
    where
      by : (suc from ≤ s → In q (branches bound fits sub path (suc from) left)) → (c : Bool) → (from == s) ≡ c
          → In q ((if fits (reverse path) from then sub (from ∷ path) else []) ++ branches bound fits sub path (suc from) left)
      by ih true e =
          let same : from ≡ s = eqb-true from s e in
          let g : fits (reverse path) from ≡ true = rw same f in
          In-append_left (if fits (reverse path) from then sub (from ∷ path) else []) (branches bound fits sub path (suc from) left) q (rw g (rw same i))
      by ih false e =
          let other : from ≡ s → ⊥ = λ k. true≢false (sym (eq-eqb from s k) ∙ e) in
          In-append_right (if fits (reverse path) from then sub (from ∷ path) else []) (branches bound fits sub path (suc from) left) q (ih (omega (arith, other)))

  pub visits-fit : (n : ℕ) (path q : List ℕ) → FitBackwards bound fits path → In q (visits bound fits n path) → FitBackwards bound fits q × (length path ≤ length q) × (length q ≤ length path + n)
  unfolding visits
  visits-fit zero path q f (inl e) = subst (λ z. FitBackwards bound fits z × (length path ≤ length z) × (length z ≤ length path + 0)) (sym e) (f, omega arith, omega arith)
  visits-fit zero path q f (inr h) = absurd h
  visits-fit (suc n) path q f (inl e) = subst (λ z. FitBackwards bound fits z × (length path ≤ length z) × (length z ≤ length path + suc n)) (sym e) (f, omega arith, omega arith)
  visits-fit (suc n) path q f (inr h) =
      let p = from_branches (visits bound fits n) path q 0 bound h in
      let l : p.0 < bound = (let k = p.2 in omega arith) in
      let r = visits-fit n (p.0 ∷ path) q (f, l, p.3) p.4 in
      (r.0, (let k = r.1 in omega arith), (let k = r.2 in omega arith))

  visits-more : (n : ℕ) (path q : List ℕ) (t : ℕ) → In q (visits bound fits n path) → length q < length path + n → t < bound → fits (reverse q) t ≡ true → In (t ∷ q) (visits bound fits n path)
  unfolding visits
  visits-more zero path q t (inl e) l b f = let k = ap length e in absurd (omega arith)
  visits-more zero path q t (inr h) l b f = absurd h
  visits-more (suc n) path q t (inl e) l b f =
      let first = visits-first bound fits n (t ∷ path) in
      let i : In (t ∷ path) (visits bound fits n (t ∷ path)) = subst (λ w. In (t ∷ path) w) (sym first.1) (inl refl) in
      let g : fits (reverse path) t ≡ true = subst (λ w. fits (reverse w) t ≡ true) e f in
      inr (subst (λ w. In (t ∷ w) (branches bound fits (visits bound fits n) path 0 bound)) (sym e) (to_branches (visits bound fits n) path (t ∷ path) 0 bound t (omega arith) (omega arith) g i))
  visits-more (suc n) path q t (inr h) l b f =
      let p = from_branches (visits bound fits n) path q 0 bound h in
      inr (to_branches (visits bound fits n) path (t ∷ q) 0 bound p.0 p.1 p.2 p.3 (visits-more n (p.0 ∷ path) q t p.4 (omega arith) b f))

  -- each path that fits is met
  pub visits-all : (n : ℕ) (q : List ℕ) → FitBackwards bound fits q → length q ≤ n → In q (visits bound fits n [])
  visits-all n [] f l = let first = visits-first bound fits n [] in subst (λ w. In [] w) (sym first.1) (inl refl)
  visits-all n (t ∷ q) f l = visits-more n [] q t (visits-all n q f.0 (omega arith)) (omega arith) f.1 f.2
