-- Images that are written one after the other.
use Rattle.std.proofs.Common.{◌≡◌, ℕ, ◌+◌, ◌<◌, ◌⊎◌, List, length, take, get_or, set, refl, sym, ◌∙◌, subst, inl, inr, arith}
use Rattle.std.proofs.lemmas.List.{get_or-set_same, get_or-set_other}
use Rattle.rdf_terms.proofs.Common.{In, AreDistinct, one_place_within}
use Rattle.component_walk.proofs.Setting.{In-take-less, In-take-last}

below_or_last : (k n : ℕ) → k < n + 1 → (k < n) ⊎ (k ≡ n)
below_or_last k n l = grind arith

-- the first n nodes of the walk have their images
pub record ArePut (first now walk found : List ℕ) (n : ℕ) : Type 0 where
  pub here : (k : ℕ) → k < n → get_or now (get_or walk k 0) 0 ≡ get_or found k 0
  pub others : (x : ℕ) → (¬ (In x (take n walk))) → get_or now x 0 ≡ get_or first x 0

pub none_put : (first walk found : List ℕ) → ArePut first first walk found 0
none_put first walk found = record { here = λ k l. absurd (omega arith); others = λ x out. refl }

pub next_put : (first now walk found : List ℕ) (n : ℕ) → n < length walk → AreDistinct walk → get_or walk n 0 < length now → ArePut first now walk found n
    → ArePut first (set now (get_or walk n 0) (get_or found n 0)) walk found (n + 1)
next_put first now walk found n l once w h = record {
  here = λ k m. at k m (below_or_last k n m);
  others = λ x out. get_or-set_other now (get_or walk n 0) x (get_or found n 0) 0 (λ e. out (subst (λ y. In y (take (n + 1) walk)) (sym e) (In-take-last walk n l)))
      ∙ h.others x (λ i. out (In-take-less walk n x i));
}
  where
    at : (k : ℕ) → k < n + 1 → (k < n) ⊎ (k ≡ n) → get_or (set now (get_or walk n 0) (get_or found n 0)) (get_or walk k 0) 0 ≡ get_or found k 0
    at k m (inl b) =
        get_or-set_other now (get_or walk n 0) (get_or walk k 0) (get_or found n 0) 0 (λ e. (let f : k ≡ n = one_place_within walk k n 0 once (omega arith) l e in omega arith)) ∙ h.here k b
    at k m (inr e) =
        subst (λ j. get_or (set now (get_or walk n 0) (get_or found n 0)) (get_or walk j 0) 0 ≡ get_or found j 0) (sym e) (get_or-set_same now (get_or walk n 0) (get_or found n 0) 0 w)
