-- The maps that a search goes through come in their order, so a sought one among those that are pending stands before none of the others.
use Rattle.std.proofs.Common.{◌≡◌, ℕ, zero, suc, ◌<◌, ◌≤◌, Bool, true, false, if◌then◌else◌, List, [], ◌∷◌, ◌++◌, length, reverse, map, refl, sym, ap, ◌∙◌, subst, inl, inr, arith, true≢false, is_lt, nat_cmp, append_assoc, length-append, lt-ltb, cond, Less, Equal, Greater, eqb}
use Rattle.std.specs.Cmp.Lexicographic.{slice_cmp}
use Rattle.std.specs.Ordering.{ordering_then}
use Rattle.std.proofs.lemmas.Grind.{reverse_onto}
use Rattle.std.proofs.lemmas.List.{append-nil, length-map, length-reverse, reverse-reverse}
use Rattle.rdf_terms.proofs.Common.{In, AreDistinct, is_before, All-from_each, each-from_All, In-append, In-append_left, In-append_right, In-map, from_In-map, is_before-asym, is_before-front, is_before-irrefl}
use Rattle.graph_model.proofs.Counting.{length-within}
use Rattle.map_search.specs.Maps.{FitBackwards}
use Rattle.map_search.specs.Ends.{IsSought, IsMet, HasMore}
use Rattle.map_search.proofs.Tree.{branches, visits}
use Rattle.map_search.proofs.Reading.{from_branches, visits-fit, visits-all}

-- ---- the order of maps

is_before-first : (x y : ℕ) (a b : List ℕ) → x < y → is_before (x ∷ a) (y ∷ b) ≡ true
is_before-first x y a b l = ap (λ o. is_lt (ordering_then o (slice_cmp nat_cmp a b))) (ap (λ t. cond t Less (cond (eqb x y) Equal Greater)) (lt-ltb x y l))

-- paths, from the last image back, in the order of their maps
abbrev pub AreAscending : List (List ℕ) → Type 0
AreAscending [] = Unit {0}
AreAscending (p ∷ ps) = ((q : List ℕ) → In q ps → is_before (reverse p) (reverse q) ≡ true) × AreAscending ps

ascending_append : (ps qs : List (List ℕ)) → AreAscending ps → AreAscending qs → ((p q : List ℕ) → In p ps → In q qs → is_before (reverse p) (reverse q) ≡ true) → AreAscending (ps ++ qs)
ascending_append [] qs a b f = b
ascending_append (p ∷ ps) qs a b f = ((λ q h. elim (In-append ps qs q h) [ inl g ↦ a.0 q g | inr g ↦ f p q (inl refl) g ]), ascending_append ps qs a.1 b (λ r q g k. f r q (inr g) k))

ascending_parts : (ps qs : List (List ℕ)) → AreAscending (ps ++ qs) → (p q : List ℕ) → In p ps → In q qs → is_before (reverse p) (reverse q) ≡ true
ascending_parts [] qs a p q i j = absurd i
ascending_parts (x ∷ ps) qs a p q (inl e) j = subst (λ w. is_before (reverse w) (reverse q) ≡ true) (sym e) (a.0 q (In-append_right ps qs q j))
ascending_parts (x ∷ ps) qs a p q (inr i) j = ascending_parts ps qs a.1 p q i j

ascending_front : (ps qs : List (List ℕ)) → AreAscending (ps ++ qs) → AreAscending ps
ascending_front [] qs a = tt
ascending_front (p ∷ ps) qs a = ((λ q i. a.0 q (In-append_left ps qs q i)), ascending_front ps qs a.1)

ascending_distinct : (ps : List (List ℕ)) → AreAscending ps → AreDistinct (map reverse ps)
ascending_distinct [] a = tt
ascending_distinct (p ∷ ps) a = (apart, ascending_distinct ps a.1)
  where
    apart : ¬ (In (reverse p) (map reverse ps))
    apart h = let q = from_In-map reverse ps (reverse p) h in true≢false (sym (a.0 q.0 q.1) ∙ ap (λ w. is_before (reverse p) w) (sym q.2) ∙ is_before-irrefl (reverse p))

-- ---- the maps of a search

module _ (bound : ℕ) (fits : List ℕ → ℕ → Bool) where
  -- what is met behind a path begins with its map
  visits-front : (n : ℕ) (path q : List ℕ) → In q (visits bound fits n path) → (rest : List ℕ) × (reverse q ≡ reverse path ++ rest)
  unfolding visits
  visits-front zero path q (inl e) = ([], ap reverse e ∙ sym (append-nil (reverse path)))
  visits-front zero path q (inr h) = absurd h
  visits-front (suc n) path q (inl e) = ([], ap reverse e ∙ sym (append-nil (reverse path)))
  visits-front (suc n) path q (inr h) =
      let p = from_branches bound fits (visits bound fits n) path q 0 bound h in
      let r = visits-front n (p.0 ∷ path) q p.4 in
      (p.0 ∷ r.0, r.1 ∙ ap (λ w. w ++ r.0) (reverse_onto path p.0 []) ∙ append_assoc (reverse path) (p.0 ∷ []) r.0)

  record Branch (path q : List ℕ) (from : ℕ) : Type 0 where
    image : ℕ
    rest : List ℕ
    behind : from ≤ image
    map_is : reverse q ≡ reverse path ++ image ∷ rest

  branch_of : (n : ℕ) (path q : List ℕ) (from left : ℕ) → In q (branches bound fits (visits bound fits n) path from left) → Branch path q from
  branch_of n path q from left h =
      let p = from_branches bound fits (visits bound fits n) path q from left h in
      let r = visits-front n (p.0 ∷ path) q p.4 in
      record { image = p.0; rest = r.0; behind = p.1; map_is = r.1 ∙ ap (λ w. w ++ r.0) (reverse_onto path p.0 []) ∙ append_assoc (reverse path) (p.0 ∷ []) r.0 }

  branches-ascending : (n : ℕ) (path : List ℕ) → ((t : ℕ) → AreAscending (visits bound fits n (t ∷ path))) → (from left : ℕ) → AreAscending (branches bound fits (visits bound fits n) path from left)
  unfolding branches
  branches-ascending n path each from zero = tt
  branches-ascending n path each from (suc left) = by (branches-ascending n path each (suc from) left) (fits (reverse path) from) refl
    where
      later : (p q : List ℕ) → In p (visits bound fits n (from ∷ path)) → In q (branches bound fits (visits bound fits n) path (suc from) left) → is_before (reverse p) (reverse q) ≡ true
      later p q i j =
          let a = visits-front n (from ∷ path) p i in
          let e : reverse p ≡ reverse path ++ from ∷ a.0 = a.1 ∙ ap (λ w. w ++ a.0) (reverse_onto path from []) ∙ append_assoc (reverse path) (from ∷ []) a.0 in
          let b = branch_of n path q (suc from) left j in
          let l : from < b.image = (let k = b.behind in omega arith) in
          rw (e, b.map_is) (is_before-front (reverse path) (from ∷ a.0) (b.image ∷ b.rest) ∙ is_before-first from b.image a.0 b.rest l)

      by : AreAscending (branches bound fits (visits bound fits n) path (suc from) left) → (b : Bool) → fits (reverse path) from ≡ b
          → AreAscending ((if fits (reverse path) from then visits bound fits n (from ∷ path) else []) ++ branches bound fits (visits bound fits n) path (suc from) left)
      by ih true e = rw e (ascending_append (visits bound fits n (from ∷ path)) (branches bound fits (visits bound fits n) path (suc from) left) (each from) ih later)
      by ih false e = rw e ih

  visits-ascending : (n : ℕ) (path : List ℕ) → AreAscending (visits bound fits n path)
  unfolding visits
  visits-ascending zero path = ((λ q h. absurd h), tt)
  visits-ascending (suc n) path = (first, branches-ascending n path (λ t. visits-ascending n (t ∷ path)) 0 bound)
    where
      first : (q : List ℕ) → In q (branches bound fits (visits bound fits n) path 0 bound) → is_before (reverse path) (reverse q) ≡ true
      first q h =
          let b = branch_of n path q 0 bound h in
          rw b.map_is (ap (λ w. is_before w (reverse path ++ b.image ∷ b.rest)) (sym (append-nil (reverse path))) ∙ is_before-front (reverse path) [] (b.image ∷ b.rest))

  -- ---- those that are met

  module _ (places : ℕ) (sought : List ℕ → Bool) (done rest : List (List ℕ)) (split : visits bound fits places [] ≡ done ++ rest) where
    ascending : AreAscending (done ++ rest)
    ascending = subst AreAscending split (visits-ascending places [])

    -- each sought map is pending: those that are done are met
    pub done_are_met : ((other : List ℕ) → IsSought bound fits places sought other → In (reverse other) rest) → (p : List ℕ) → In p done → IsMet bound fits places sought (reverse p)
    done_are_met pending p i =
        let r = visits-fit bound fits places [] p tt (subst (λ w. In p w) (sym split) (In-append_left done rest p i)) in
        let k = r.2 in
        let l : length (reverse p) ≡ length p = length-reverse p in
        record {
          is_map = subst (FitBackwards bound fits) (sym (reverse-reverse p)) r.0;
          within = omega arith;
          none_before =
              λ other s. is_before-asym (reverse p) other (subst (λ w. is_before (reverse p) w ≡ true) (reverse-reverse other)
              (ascending_parts done rest ascending p (reverse other) i (pending other s)));
        }

    -- none of the others is met: no more are met than are done
    pub few_are_met : (limit : ℕ) → length done ≤ limit → ((p : List ℕ) → In p rest → ¬ (IsMet bound fits places sought (reverse p))) → ¬ (HasMore bound fits places sought limit)
    few_are_met limit few others h =
        let l : length h.maps ≤ length (map reverse done) = length-within h.maps (map reverse done) h.distinct within in
        let k : length (map reverse done) ≡ length done = length-map done reverse in
        let m = h.more in
        omega arith
      where
        within : (images : List ℕ) → In images h.maps → In images (map reverse done)
        within images i =
            let met = each-from_All (IsMet bound fits places sought) h.maps images h.are_met i in
            let k : length (reverse images) ≡ length images = length-reverse images in
            let w = met.within in
            let j : In (reverse images) (visits bound fits places []) = visits-all bound fits places (reverse images) met.is_map (omega arith) in
            elim (In-append done rest (reverse images) (subst (λ w. In (reverse images) w) split j)) [
              | inl d ↦ subst (λ w. In w (map reverse done)) (reverse-reverse images) (In-map reverse done (reverse images) d)
              | inr r ↦ absurd (others (reverse images) r (subst (IsMet bound fits places sought) (sym (reverse-reverse images)) met))
            ]

    pub more_are_met : (limit : ℕ) → limit < length done → ((p : List ℕ) → In p done → IsMet bound fits places sought (reverse p)) → HasMore bound fits places sought limit
    more_are_met limit more met = record {
      maps = map reverse done;
      distinct = ascending_distinct done (ascending_front done rest ascending);
      are_met = All-from_each (IsMet bound fits places sought) (map reverse done) each;
      more = (let k : length (map reverse done) ≡ length done = length-map done reverse in omega arith);
    }
      where
        each : (images : List ℕ) → In images (map reverse done) → IsMet bound fits places sought images
        each images i = let q = from_In-map reverse done images i in subst (IsMet bound fits places sought) (sym q.2) (met q.0 q.1)

  -- ---- at a map that is met next

  module _ (places : ℕ) (sought : List ℕ → Bool) (done : List (List ℕ)) (next : List ℕ) (rest : List (List ℕ)) (split : visits bound fits places [] ≡ done ++ next ∷ rest)
      (pending : (other : List ℕ) → IsSought bound fits places sought other → In (reverse other) (next ∷ rest)) where
    moved : visits bound fits places [] ≡ (done ++ next ∷ []) ++ rest
    moved = split ∙ sym (append_assoc done (next ∷ []) rest)

    next_before : (p : List ℕ) → In p rest → is_before (reverse next) (reverse p) ≡ true
    next_before p i = ascending_parts (done ++ next ∷ []) rest (ascending places sought (done ++ next ∷ []) rest moved) next p (In-append_right done (next ∷ []) next (inl refl)) i

    pub next_is_met : IsMet bound fits places sought (reverse next)
    next_is_met =
        let r = visits-fit bound fits places [] next tt (subst (λ w. In next w) (sym split) (In-append_right done (next ∷ rest) next (inl refl))) in
        let k = r.2 in
        let l : length (reverse next) ≡ length next = length-reverse next in
        record {
          is_map = subst (FitBackwards bound fits) (sym (reverse-reverse next)) r.0;
          within = omega arith;
          none_before = λ other s. by other (pending other s);
        }
      where
        by : (other : List ℕ) → In (reverse other) (next ∷ rest) → is_before other (reverse next) ≡ false
        by other (inl e) = ap (λ w. is_before w (reverse next)) (sym (reverse-reverse other) ∙ ap reverse e) ∙ is_before-irrefl (reverse next)
        by other (inr i) = is_before-asym (reverse next) other (subst (λ w. is_before (reverse next) w ≡ true) (reverse-reverse other) (next_before (reverse other) i))

    each_is_met : (p : List ℕ) → In p (done ++ next ∷ []) → IsMet bound fits places sought (reverse p)
    each_is_met p i =
        elim (In-append done (next ∷ []) p i) [
          | inl d ↦ done_are_met places sought done (next ∷ rest) split pending p d
          | inr h ↦ elim h [ inl e ↦ subst (λ w. IsMet bound fits places sought (reverse w)) (sym e) next_is_met | inr z ↦ absurd z ]
        ]

    pub more_with_next : (limit : ℕ) → limit ≡ length done → HasMore bound fits places sought limit
    more_with_next limit e = more_are_met places sought (done ++ next ∷ []) rest moved limit (let k = length-append done (next ∷ []) in omega arith) each_is_met

    pub few_up_to_sought : (limit : ℕ) → length done < limit → sought (reverse next) ≡ true → length next ≡ places → ¬ (HasMore bound fits places sought limit)
    few_up_to_sought limit few s whole = few_are_met places sought (done ++ next ∷ []) rest moved limit (let k = length-append done (next ∷ []) in omega arith) behind
      where
        is_sought : IsSought bound fits places sought (reverse next)
        is_sought = record { is_map = next_is_met.is_map; whole = length-reverse next ∙ whole; is_sought = s }

        behind : (p : List ℕ) → In p rest → ¬ (IsMet bound fits places sought (reverse p))
        behind p i met = true≢false (sym (next_before p i) ∙ met.none_before (reverse next) is_sought)
