-- The places of terms, given one after the other.
use Rattle.std.proofs.Common.{◌≡◌, ℕ, ◌+◌, ◌<◌, ◌≤◌, ◌⊎◌, List, length, take, get_or, set, refl, sym, ◌∙◌, subst, inl, inr, arith}
use Rattle.std.proofs.lemmas.List.{get_or-set_same, get_or-set_other, take_all}
use Rattle.rdf_terms.proofs.Common.{In, AreDistinct, In-take, decide_in, one_place_within}
use Rattle.lean_search.specs.Places.{AreNoPlaces, ArePlaces}
use Rattle.lean_search.proofs.Setting.{AreSet, In-take-less, In-take-last}
use Rattle.lean_search.specs.declared.places.TheConstants.{NONE}

below_or_last : (k n : ℕ) → k < n + 1 → (k < n) ⊎ (k ≡ n)
below_or_last k n l = grind arith

-- ---- giving places

pub record ArePlaced (first now terms : List ℕ) (n : ℕ) : Type 0 where
  pub placed : (k : ℕ) → k < n → get_or now (get_or terms k 0) 0 ≡ k
  pub others : (t : ℕ) → (¬ (In t (take n terms))) → get_or now t 0 ≡ get_or first t 0

pub set_next_place : (first now terms : List ℕ) (n : ℕ) → n < length terms → AreDistinct terms → get_or terms n 0 < length now → ArePlaced first now terms n
    → ArePlaced first (set now (get_or terms n 0) n) terms (n + 1)
set_next_place first now terms n l d w h = record {
  placed = λ k m. at k m (below_or_last k n m);
  others = λ t out. get_or-set_other now (get_or terms n 0) t n 0 (λ e. out (subst (λ x. In x (take (n + 1) terms)) (sym e) (In-take-last terms n l)))
      ∙ h.others t (λ i. out (In-take-less terms n t i));
}
  where
    at : (k : ℕ) → k < n + 1 → (k < n) ⊎ (k ≡ n) → get_or (set now (get_or terms n 0) n) (get_or terms k 0) 0 ≡ k
    at k m (inl b) = get_or-set_other now (get_or terms n 0) (get_or terms k 0) n 0 (λ e. (let f : k ≡ n = one_place_within terms k n 0 d (omega arith) l e in omega arith)) ∙ h.placed k b
    at k m (inr e) = subst (λ j. get_or (set now (get_or terms n 0) n) (get_or terms j 0) 0 ≡ j) (sym e) (get_or-set_same now (get_or terms n 0) n 0 w)

pub no_places_set : (first terms : List ℕ) → ArePlaced first first terms 0
no_places_set first terms = record { placed = λ k l. absurd (omega arith); others = λ t out. refl }

pub all_places_set : (first now terms : List ℕ) (n : ℕ) → length terms ≤ n → length now ≡ length first → AreNoPlaces (length first) first → ArePlaced first now terms n
    → ArePlaces (length first) now terms
all_places_set first now terms n l e none h = record {
  count = e;
  at_place = λ k m. h.placed k (omega arith);
  elsewhere = λ t m out. h.others t (λ i. out (In-take n terms t i)) ∙ none.none t m;
}

-- ---- clearing

pub all_cleared : (first now terms : List ℕ) (n : ℕ) → length terms ≤ n → ArePlaces (length first) first terms → AreSet 0 first now terms NONE n → AreNoPlaces (length first) now
all_cleared first now terms n l places h = record { count = h.count; none = λ t m. by t m (decide_in t terms) }
  where
    by : (t : ℕ) → t < length first → In t terms ⊎ (¬ (In t terms)) → get_or now t 0 ≡ NONE
    by t m (inl i) = h.here t (subst (In t) (sym (take_all n terms l)) i) m
    by t m (inr o) = h.others t (λ i. o (In-take n terms t i)) ∙ places.elsewhere t m o
