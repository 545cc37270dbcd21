-- The state of a search between two steps, and what each step makes of it.
use Rattle.std.proofs.Common.{◌≡◌, ℕ, zero, suc, ◌+◌, ◌<◌, ◌≤◌, Bool, true, false, List, [], ◌∷◌, ◌++◌, length, reverse, refl, sym, ap, ◌∙◌, subst, inl, inr, arith, true≢false, append_assoc, length-append}
use Rattle.rdf_terms.specs.Lists.{In}
use Rattle.map_search.specs.Maps.{FitBackwards, IsNext, NoneFits}
use Rattle.map_search.proofs.Tree.{visits, pending, pending-next, pending-whole, pending-deeper, pending-back, pending-end, visits-start, visits-first}

-- The maps that were met are all but those that are pending, and none of them is sought.
pub record Underway (bound : ℕ) (fits : List ℕ → ℕ → Bool) (places : ℕ) (sought : List ℕ → Bool) (path : List ℕ) (from tried : ℕ) : Type 0 where
  -- so many places follow behind the next one
  pub r : ℕ
  pub places_are : places ≡ suc (length path + r)
  pub fit : FitBackwards bound fits path
  pub done : List (List ℕ)
  pub split : visits bound fits places [] ≡ done ++ pending bound fits r path from
  pub count : length done ≡ tried
  pub left : (p : List ℕ) → In p (visits bound fits places []) → length p ≡ places → sought (reverse p) ≡ true → In p (pending bound fits r path from)

module _ (bound : ℕ) (fits : List ℕ → ℕ → Bool) (places : ℕ) (sought : List ℕ → Bool) where
  pub start : 0 < places → Underway bound fits places sought [] 0 1
  start some = by places refl some
    where
      by : (n : ℕ) → places ≡ n → 0 < n → Underway bound fits places sought [] 0 1
      by zero e l = absurd (omega arith)
      by (suc r) e l =
          let v : visits bound fits places [] ≡ [] ∷ pending bound fits r [] 0 = ap (λ n. visits bound fits n []) e ∙ visits-start bound fits r in
          record {
            r = r;
            places_are = omega arith;
            fit = tt;
            done = [] ∷ [];
            split = v;
            count = refl;
            left = λ p i whole s. (let j = subst (λ w. In p w) v i in elim j [ inl z ↦ (let k = ap length z in absurd (omega arith)) | inr h ↦ h ]);
          }

  module _ (path : List ℕ) (from tried : ℕ) (u : Underway bound fits places sought path from tried) where
    -- there is a map left to try
    pub is_more : (t : ℕ) → IsNext bound (fits (reverse path)) from t → tried < length (visits bound fits places [])
    is_more t n =
        let first = visits-first bound fits u.r (t ∷ path) in
        let e = pending-next bound fits u.r path from t n ∙ ap (λ w. w ++ pending bound fits u.r path (suc t)) first.1 in
        let k : length (pending bound fits u.r path from) ≡ suc (length (first.0 ++ pending bound fits u.r path (suc t))) = ap length e in
        let l = ap length u.split ∙ length-append u.done (pending bound fits u.r path from) in
        let c = u.count in
        omega arith

    pub deeper : (t : ℕ) → IsNext bound (fits (reverse path)) from t → suc (length path) < places → Underway bound fits places sought (t ∷ path) 0 (tried + 1)
    deeper t n short = by u.r u.places_are u.split u.left
      where
        by : (r : ℕ) → places ≡ suc (length path + r) → visits bound fits places [] ≡ u.done ++ pending bound fits r path from
            → ((p : List ℕ) → In p (visits bound fits places []) → length p ≡ places → sought (reverse p) ≡ true → In p (pending bound fits r path from))
            → Underway bound fits places sought (t ∷ path) 0 (tried + 1)
        by zero e split left = absurd (omega arith)
        by (suc r) e split left =
            let v = pending-deeper bound fits r path from t n in
            record {
              r = r;
              places_are = omega arith;
              fit = (u.fit, n.within, n.fit);
              done = u.done ++ (t ∷ path) ∷ [];
              split = split ∙ ap (λ w. u.done ++ w) v ∙ sym (append_assoc u.done ((t ∷ path) ∷ []) (pending bound fits r (t ∷ path) 0));
              count = (let k = length-append u.done ((t ∷ path) ∷ []) in let c = u.count in omega arith);
              left = λ p i whole s. (let j = subst (λ w. In p w) v (left p i whole s) in elim j [ inl z ↦ (let k = ap length z in absurd (omega arith)) | inr h ↦ h ]);
            }

    pub passed : (t : ℕ) → IsNext bound (fits (reverse path)) from t → places ≤ suc (length path) → sought (reverse (t ∷ path)) ≡ false → Underway bound fits places sought path (suc t) (tried + 1)
    passed t n full unsought = by u.r u.places_are u.split u.left
      where
        by : (r : ℕ) → places ≡ suc (length path + r) → visits bound fits places [] ≡ u.done ++ pending bound fits r path from
            → ((p : List ℕ) → In p (visits bound fits places []) → length p ≡ places → sought (reverse p) ≡ true → In p (pending bound fits r path from))
            → Underway bound fits places sought path (suc t) (tried + 1)
        by (suc r) e split left = absurd (omega arith)
        by zero e split left =
            let v = pending-whole bound fits path from t n in
            record {
              r = 0;
              places_are = e;
              fit = u.fit;
              done = u.done ++ (t ∷ path) ∷ [];
              split = split ∙ ap (λ w. u.done ++ w) v ∙ sym (append_assoc u.done ((t ∷ path) ∷ []) (pending bound fits 0 path (suc t)));
              count = (let k = length-append u.done ((t ∷ path) ∷ []) in let c = u.count in omega arith);
              left = λ p i whole s. (let j = subst (λ w. In p w) v (left p i whole s) in elim j [ inl z ↦ absurd (true≢false (sym s ∙ ap (λ w. sought (reverse w)) z ∙ unsought)) | inr h ↦ h ]);
            }

  pub back : (x : ℕ) (below : List ℕ) (from tried : ℕ) → Underway bound fits places sought (x ∷ below) from tried → NoneFits bound (fits (reverse (x ∷ below))) from
      → Underway bound fits places sought below (suc x) tried
  back x below from tried u n =
      let v = pending-back bound fits u.r x below from n in
      record {
        r = suc u.r;
        places_are = (let e = u.places_are in omega arith);
        fit = u.fit.0;
        done = u.done;
        split = u.split ∙ ap (λ w. u.done ++ w) v;
        count = u.count;
        left = λ p i whole s. subst (λ w. In p w) v (u.left p i whole s);
      }

  pub ended : (from tried : ℕ) → Underway bound fits places sought [] from tried → NoneFits bound (fits (reverse [])) from → (p : List ℕ) → In p (visits bound fits places []) → length p ≡ places
      → ¬ (sought (reverse p) ≡ true)
  ended from tried u n p i whole s = subst (λ w. In p w) (pending-end bound fits u.r from n) (u.left p i whole s)
