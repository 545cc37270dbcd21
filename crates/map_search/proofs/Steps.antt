-- The steps of a search, over the images in the order of their places.
use Rattle.std.proofs.Common.{◌≡◌, ℕ, suc, ◌+◌, ◌<◌, ◌≤◌, Bool, true, false, List, [], ◌∷◌, ◌++◌, length, reverse, sym, ap, ◌∙◌, subst, arith, add-one}
use Rattle.std.proofs.lemmas.List.{reverse-append, reverse-reverse, length-reverse}
use Rattle.rdf_terms.specs.Lists.{In}
use Rattle.map_search.specs.Maps.{IsMap, IsNext, NoneFits}
use Rattle.map_search.specs.Ends.{IsSought, HasMore, IsFound, IsNothing}
use Rattle.map_search.proofs.Tree.{visits, visits-first, pending, pending-next, pending-end}
use Rattle.map_search.proofs.Reading.{visits-all}
use Rattle.map_search.proofs.InOrder.{few_are_met, next_is_met, more_with_next, few_up_to_sought}
use Rattle.map_search.proofs.Underway.{Underway, start, is_more, deeper, passed, back, ended}

reverse-push : (images : List ℕ) (t : ℕ) → reverse (images ++ t ∷ []) ≡ t ∷ reverse images
reverse-push images t = reverse-append images (t ∷ [])

module _ (bound : ℕ) (fits : List ℕ → ℕ → Bool) (places : ℕ) (sought : List ℕ → Bool) where
  abbrev pub State : List ℕ → ℕ → ℕ → Type 0
  State images from tried = Underway bound fits places sought (reverse images) from tried

  pub total : ℕ
  total = length (visits bound fits places [])

  pub at_start : (images : List ℕ) → images ≡ [] → 0 < places → State images 0 1
  at_start images e some = subst (λ w. State w 0 1) (sym e) (start bound fits places sought some)

  -- a sought map, by its path
  sought_path : (other : List ℕ) → IsSought bound fits places sought other → In (reverse other) (visits bound fits places []) × (length (reverse other) ≡ places)
      × (sought (reverse (reverse other)) ≡ true)
  sought_path other s =
      let k : length (reverse other) ≡ length other = length-reverse other in
      let w : length other ≡ places = s.whole in
      (visits-all bound fits places (reverse other) s.is_map (omega arith), k ∙ w, ap sought (reverse-reverse other) ∙ s.is_sought)

  pub past_none : (limit : ℕ) → limit ≡ 0 → HasMore bound fits places sought limit
  past_none limit e =
      let first = visits-first bound fits places [] in
      more_with_next bound fits places sought [] [] first.0 first.1 (λ other s. subst (λ w. In (reverse other) w) first.1 (sought_path other s).0) limit e

  module _ (images : List ℕ) (from tried : ℕ) (u : State images from tried) where
    pub short : length images < places
    short = let e = u.places_are in let k : length (reverse images) ≡ length images = length-reverse images in omega arith

    backwards : (t : ℕ) → IsNext bound (fits images) from t → IsNext bound (fits (reverse (reverse images))) from t
    backwards t n = subst (λ w. IsNext bound (fits w) from t) (sym (reverse-reverse images)) n

    pub more : (t : ℕ) → IsNext bound (fits images) from t → tried < total
    unfolding total
    more t n = is_more bound fits places sought (reverse images) from tried u t (backwards t n)

    pub pushed_is_map : (t : ℕ) → IsNext bound (fits images) from t → IsMap bound fits (images ++ t ∷ [])
    pushed_is_map t n = let b = backwards t n in rw (reverse-push images t) (u.fit, b.within, b.fit)

    pub go_deeper : (t : ℕ) → IsNext bound (fits images) from t → suc (length images) < places → State (images ++ t ∷ []) 0 (tried + 1)
    go_deeper t n short =
        let k : length (reverse images) ≡ length images = length-reverse images in
        subst (λ w. Underway bound fits places sought w 0 (tried + 1)) (sym (reverse-push images t)) (deeper bound fits places sought (reverse images) from tried u t (backwards t n) (omega arith))

    pub pass : (t : ℕ) → IsNext bound (fits images) from t → places ≤ suc (length images) → sought (images ++ t ∷ []) ≡ false → State images (t + 1) (tried + 1)
    pass t n full unsought =
        let k : length (reverse images) ≡ length images = length-reverse images in
        let e : reverse (t ∷ reverse images) ≡ images ++ t ∷ [] = ap reverse (sym (reverse-push images t)) ∙ reverse-reverse (images ++ t ∷ []) in
        subst (λ m. State images m (tried + 1)) (sym (add-one t)) (passed bound fits places sought (reverse images) from tried u t (backwards t n) (omega arith) (ap sought e ∙ unsought))

    -- what is pending behind the next map
    record Next (t : ℕ) : Type 0 where
      rest : List (List ℕ)
      split : visits bound fits places [] ≡ u.done ++ (t ∷ reverse images) ∷ rest
      left : (other : List ℕ) → IsSought bound fits places sought other → In (reverse other) ((t ∷ reverse images) ∷ rest)

    at_next : (t : ℕ) → IsNext bound (fits images) from t → Next t
    at_next t n =
        let first = visits-first bound fits u.r (t ∷ reverse images) in
        let e : pending bound fits u.r (reverse images) from ≡ (t ∷ reverse images) ∷ (first.0 ++ pending bound fits u.r (reverse images) (suc t)) = pending-next bound fits u.r (reverse images) from t
        (backwards t n) ∙ ap (λ w. w ++ pending bound fits u.r (reverse images) (suc t)) first.1 in
        record {
          rest = first.0 ++ pending bound fits u.r (reverse images) (suc t);
          split = u.split ∙ ap (λ w. u.done ++ w) e;
          left = λ other s. (let p = sought_path other s in subst (λ w. In (reverse other) w) e (u.left (reverse other) p.0 p.1 p.2));
        }

    pub past_limit : (t limit : ℕ) → IsNext bound (fits images) from t → tried ≡ limit → HasMore bound fits places sought limit
    past_limit t limit n e =
        let a = at_next t n in
        more_with_next bound fits places sought u.done (t ∷ reverse images) a.rest a.split a.left limit (sym e ∙ sym u.count)

    pub found : (t limit : ℕ) → IsNext bound (fits images) from t → tried < limit → suc (length images) ≡ places → sought (images ++ t ∷ []) ≡ true
        → IsFound bound fits places sought limit (images ++ t ∷ [])
    found t limit n few whole s =
        let a = at_next t n in
        let e : reverse (t ∷ reverse images) ≡ images ++ t ∷ [] = ap reverse (sym (reverse-push images t)) ∙ reverse-reverse (images ++ t ∷ []) in
        let k : length (reverse images) ≡ length images = length-reverse images in
        let met = next_is_met bound fits places sought u.done (t ∷ reverse images) a.rest a.split a.left in
        let c = u.count in
        let w : suc (length (reverse images)) ≡ places = ap suc k ∙ whole in
        subst (IsFound bound fits places sought limit) e (record {
          is_sought = record { is_map = met.is_map; whole = length-reverse (t ∷ reverse images) ∙ w; is_sought = ap sought e ∙ s };
          is_met = met;
          few = few_up_to_sought bound fits places sought u.done (t ∷ reverse images) a.rest a.split a.left limit (omega arith) (ap sought e ∙ s) w;
        })

  pub go_back : (images before : List ℕ) (x from tried : ℕ) → State images from tried → images ≡ before ++ x ∷ [] → NoneFits bound (fits images) from → State before (x + 1) tried
  go_back images before x from tried u e none =
      let r : reverse images ≡ x ∷ reverse before = ap reverse e ∙ reverse-push before x in
      let n : NoneFits bound (fits (reverse (reverse images))) from = subst (λ w. NoneFits bound (fits w) from) (sym (reverse-reverse images)) none in
      subst (λ m. State before m tried) (sym (add-one x))
      (back bound fits places sought x (reverse before) from tried (subst (λ w. Underway bound fits places sought w from tried) r u) (subst (λ w. NoneFits bound (fits (reverse w)) from) r n))

  pub nothing_left : (images : List ℕ) (from tried limit : ℕ) → State images from tried → images ≡ [] → NoneFits bound (fits images) from → tried ≤ limit → IsNothing bound fits places sought limit
  nothing_left images from tried limit u e none few = by (subst (λ z. State z from tried) e u) (subst (λ z. NoneFits bound (fits z) from) e none)
    where
      by : State [] from tried → NoneFits bound (fits []) from → IsNothing bound fits places sought limit
      by v n = record {
        none = λ all s. (let p = sought_path all s in ended bound fits places sought from tried v n (reverse all) p.0 p.1 p.2);
        few = few_are_met bound fits places sought v.done [] (v.split ∙ ap (λ w. v.done ++ w) (pending-end bound fits v.r from n)) limit (let c = v.count in omega arith) (λ p i. absurd i);
      }
