-- The results of a class in another order, in which the right one of two new results is the first of its hash: if a symmetry carries the lists to one another, the two results are joined.
use Rattle.std.proofs.Common.{List, [], ap, append_assoc, false, inl, inr, length, map, refl, subst, sym, true, true≢false, ℕ, ◌++◌, ◌∙◌, ◌∷◌, ◌≡◌, ◌⊎◌}
use Rattle.std.proofs.lemmas.Bool.{false_from_ne_true}
use Rattle.std.proofs.lemmas.List.{length-map, map-append}
use Rattle.rdf_terms.proofs.Common.{In-append, In-append_left, In-append_right, In-map, from_In-map, In-Permutes, Permutes-sym, is_at_most-from_not_before, is_at_most-refl, is_before-irrefl, Dataset, IsValid, Symmetry, In, is_at_most, is_before, map-map}
use Rattle.canon_model.specs.Allowed.{AreAscending, HashPathResult, IsHashPathList, issue_results, issued_for_unique_hashes, start_of, unissued_nodes}
use Rattle.canon_model.specs.CountedRun.{counted_results, counted_start, result_of, trace_of_starts}
use Rattle.canon_model.specs.Coverage.{BeginsWith}
use Rattle.canon_model.specs.Hashing.{Hashing}
use Rattle.canon_model.specs.Issuer.{is_issued}
use Rattle.canon_model.specs.Outcome.{HashNDegreeQuads}
use Rattle.canon_model.specs.Ties.{AreJoined, IsJoined}
use Rattle.canon_model.specs.TwoLists.{AreNewResults, MayBeIssuedFirst}
use Rattle.canon_model.proofs.CanonicalLists.{AreCanonical, issues_for_hashes-canonical, unique_hashes-canonical}
use Rattle.canon_model.proofs.Components.{IsComponent}
use Rattle.canon_model.proofs.CountedAllowed.{outcome_of_start}
use Rattle.canon_model.proofs.Equivariance.{map_back, same_test}
use Rattle.canon_model.proofs.ExchangeSymmetry.{append_split, map_same_in}
use Rattle.canon_model.proofs.IssueEach.{issue_each-new}
use Rattle.canon_model.proofs.IssuedLists.{issue_results-issued, issue_results-keeps, issue_results-once, issued_issue_results_from}
use Rattle.canon_model.proofs.Issuers.{AreOnce, In-from_is_issued, Keeps, are_distinct_from_once, begins_trans, is_issued-from_In}
use Rattle.canon_model.proofs.LocalSymmetry.{AreQuads, are_quads}
use Rattle.canon_model.proofs.Maps.{map_identity}
use Rattle.canon_model.proofs.NewResults.{new_results_may_be_issued_first}
use Rattle.canon_model.proofs.RunTies.{from_start}
use Rattle.canon_model.proofs.Symmetries.{composed_symmetry, inverse_symmetry}
use Rattle.canon_model.proofs.SortedResults.{sort_results-ascending, sort_results-permutes}
use Rattle.canon_model.proofs.TieSymmetry.{joined_where_symmetric}
use Rattle.canon_model.proofs.Totality.{mentions_nodes}
use Rattle.canon_model.proofs.TwoLists.{issue_results-append}
use Rattle.canon_model.proofs.Uniqueness.{joined_left, joined_right, unique_up_to_symmetry}
use Rattle.other_output.proofs.CarriedFronts.{begins, component, issuer_is}
use Rattle.other_output.proofs.IssuedFronts.{issue_results-begins, same_length}

-- what stands behind a result has no lesser hash
ascending-behind : (ps : List HashPathResult) (r : HashPathResult) (qs : List HashPathResult) → AreAscending (ps ++ r ∷ qs) → (s : HashPathResult) → In s qs
    → is_before s.hash r.hash ≡ false
ascending-behind [] r qs a s h = a.0 s h
ascending-behind (p ∷ ps) r qs a s h = ascending-behind ps r qs a.1 s h

joined_start : (ρ : Hashing) (D : Dataset) (c xs : List ℕ) → AreJoined D (trace_of_starts ρ D c xs).ties → (x : ℕ) → In x xs → AreJoined D (counted_start ρ D c x).trace.ties
joined_start ρ D c [] j x h = absurd h
joined_start ρ D c (y ∷ xs) j x (inl e) = subst (λ w. AreJoined D (counted_start ρ D c w).trace.ties) (sym e)
    (joined_left D (counted_start ρ D c y).trace.ties (trace_of_starts ρ D c xs).ties j)
joined_start ρ D c (y ∷ xs) j x (inr h) = joined_start ρ D c xs (joined_right D (counted_start ρ D c y).trace.ties (trace_of_starts ρ D c xs).ties j) x h

module _ (ρ : Hashing) (D : Dataset) (valid : IsValid D) (c : List ℕ) (left right : HashPathResult) (new : AreNewResults ρ D c left right) where
  abbrev quads : AreQuads D
  quads = are_quads D valid

  tie : MayBeIssuedFirst ρ D c left.issuer right.issuer
  tie = new_results_may_be_issued_first ρ D valid c left right new

  pub canonical : AreCanonical D c
  canonical = issues_for_hashes-canonical ρ D (mentions_nodes D valid) tie.may_have_issued.before (issued_for_unique_hashes ρ D) c tie.may_have_issued.issued (unique_hashes-canonical ρ D)

  abbrev starts : List ℕ
  starts = unissued_nodes ρ D c new.class

  outcome_at : (x : ℕ) → In x starts → HashNDegreeQuads ρ D c x (x ∷ []) (result_of ρ D c x).hash (result_of ρ D c x).issuer
  outcome_at x i = outcome_of_start ρ D valid c canonical new.class x i

  component_at : (x : ℕ) → In x starts → IsComponent D quads c x (result_of ρ D c x).issuer
  component_at x i = component ρ D valid c (result_of ρ D c x) (outcome_at x i)

  -- ---- the results of the counted run

  there : (r : HashPathResult) → In r (new.issued ++ left ∷ new.others) → (x : ℕ) × In x starts × (r ≡ result_of ρ D c x)
  there r i = from_start ρ D valid c canonical new.class r (subst (In r) (sym new.results_are) i)

  pub right_start : In right.start starts × (right ≡ result_of ρ D c right.start)
  right_start =
      let f = there right (In-append_right new.issued (left ∷ new.others) right (inr new.right_there)) in
      let e : right.start ≡ f.0 = λ i. (f.2 i).start in
      (subst (λ x. In x starts) (sym e) f.1, f.2 ∙ ap (result_of ρ D c) (sym e))

  left_start : In left.start starts × (left ≡ result_of ρ D c left.start)
  left_start =
      let f = there left (In-append_right new.issued (left ∷ new.others) left (inl refl)) in
      let e : left.start ≡ f.0 = λ i. (f.2 i).start in
      (subst (λ x. In x starts) (sym e) f.1, f.2 ∙ ap (result_of ρ D c) (sym e))

  left_outcome : HashNDegreeQuads ρ D c left.start (left.start ∷ []) left.hash left.issuer
  left_outcome = subst (λ (v : HashPathResult). HashNDegreeQuads ρ D c v.start (v.start ∷ []) v.hash v.issuer) (sym left_start.1) (outcome_at left.start left_start.0)

  left_component : IsComponent D quads c left.start left.issuer
  left_component = component ρ D valid c left left_outcome

  right_outcome : HashNDegreeQuads ρ D c right.start (right.start ∷ []) right.hash right.issuer
  right_outcome = subst (λ (v : HashPathResult). HashNDegreeQuads ρ D c v.start (v.start ∷ []) v.hash v.issuer) (sym right_start.1) (outcome_at right.start right_start.0)

  pub right_component : IsComponent D quads c right.start right.issuer
  right_component = component ρ D valid c right right_outcome

  pub right_begins : BeginsWith (right.start ∷ []) right.issuer
  right_begins = begins ρ D valid c right right_outcome

  in_run : (x : ℕ) → In x starts → In (result_of ρ D c x) (new.issued ++ left ∷ new.others)
  in_run x i = subst (In (result_of ρ D c x)) new.results_are
      (In-Permutes (result_of ρ D c x) (sort_results-permutes (map (result_of ρ D c) starts)) (In-map (result_of ρ D c) starts x i))

  run_ascending : AreAscending (new.issued ++ left ∷ new.others)
  run_ascending = subst AreAscending new.results_are (sort_results-ascending (map (result_of ρ D c) starts))

  -- a result of lesser hash is among those that are issued for first
  issued_before : (x : ℕ) → In x starts → is_at_most left.hash (result_of ρ D c x).hash ≡ false → In (result_of ρ D c x) new.issued
  issued_before x i h = by (In-append new.issued (left ∷ new.others) (result_of ρ D c x) (in_run x i))
    where
      by : In (result_of ρ D c x) new.issued ⊎ ((result_of ρ D c x ≡ left) ⊎ In (result_of ρ D c x) new.others) → In (result_of ρ D c x) new.issued
      by (inl g) = g
      by (inr (inl e)) = absurd (true≢false (sym (is_at_most-refl left.hash) ∙ ap (λ (r : HashPathResult). is_at_most left.hash r.hash) (sym e) ∙ h))
      by (inr (inr g)) = absurd (true≢false (sym (is_at_most-from_not_before left.hash (result_of ρ D c x).hash
          (ascending-behind new.issued left new.others run_ascending (result_of ρ D c x) g)) ∙ h))

  -- results that list a node in common list the same nodes
  meets : (x y z : ℕ) (j k : List ℕ) → IsComponent D quads c x j → IsComponent D quads c y k → is_issued z j ≡ true → is_issued z k ≡ true → is_issued x k ≡ true
  meets x y z j k p q h g = p.whole k q.closed z x h p.start g

  module _ (lesser : (q : HashPathResult) → In q new.issued → is_before q.hash left.hash ≡ true) (joined : AreJoined D (trace_of_starts ρ D c starts).ties)
      (first : List HashPathResult) (r : HashPathResult) (others : List HashPathResult) (list : IsHashPathList ρ D c new.class (first ++ r ∷ others)) (start : r.start ≡ right.start)
      (are_lesser : (q : HashPathResult) → In q first → is_at_most r.hash q.hash ≡ false) where
    abbrev all : List HashPathResult
    all = first ++ r ∷ others

    start_in : (q : HashPathResult) → In q all → In q.start starts
    start_in q i = In-Permutes q.start (Permutes-sym list.one_each) (In-map start_of all q i)

    component_of : (q : HashPathResult) → In q all → IsComponent D quads c q.start q.issuer
    component_of q i = component ρ D valid c q (list.outcomes q i)

    same_hash : (q : HashPathResult) → In q all → q.hash ≡ (result_of ρ D c q.start).hash
    same_hash q i = (unique_up_to_symmetry ρ D c q.start (q.start ∷ []) (joined_start ρ D c starts joined q.start (start_in q i)) q.hash q.issuer (list.outcomes q i)).hash_is

    r_there : In r all
    r_there = In-append_right first (r ∷ others) r (inl refl)

    r_hash : r.hash ≡ left.hash
    r_hash = same_hash r r_there ∙ ap (λ x. (result_of ρ D c x).hash) start ∙ ap (λ (q : HashPathResult). q.hash) (sym right_start.1) ∙ sym new.same_hash

    -- ---- what is issued for before

    there_first : (q : HashPathResult) → In q first → In q all
    there_first q i = In-append_left first (r ∷ others) q i

    run_of : (q : HashPathResult) → In q first → In (result_of ρ D c q.start) new.issued
    run_of q i = issued_before q.start (start_in q (there_first q i))
        ((λ j. is_at_most (sym r_hash j) (sym (same_hash q (there_first q i)) j)) ∙ are_lesser q i)

    listed_in_run : (q : HashPathResult) → In q first → (z : ℕ) → is_issued z q.issuer ≡ true → is_issued z (issue_results c new.issued) ≡ true
    listed_in_run q i z h =
        let p = component_at q.start (start_in q (there_first q i)) in
        let k = component_of q (there_first q i) in
        let g = k.whole (result_of ρ D c q.start).issuer p.closed q.start z k.start h p.start in
        issue_results-issued c new.issued (result_of ρ D c q.start) z (run_of q i) (In-from_is_issued z (result_of ρ D c q.start).issuer g)

    first_of : (x : ℕ) → In x starts → is_before (result_of ρ D c x).hash left.hash ≡ true → (q : HashPathResult) × In q first × (x ≡ q.start)
    first_of x i h =
        let g = from_In-map start_of all x (In-Permutes x list.one_each i) in
        by g.0 g.2 (In-append first (r ∷ others) g.0 g.1) g.1
      where
        before : (q : HashPathResult) → x ≡ q.start → In q all → is_before q.hash left.hash ≡ true
        before q e j = ap (λ w. is_before w left.hash) (same_hash q j ∙ ap (λ y. (result_of ρ D c y).hash) (sym e)) ∙ h

        by : (q : HashPathResult) → x ≡ q.start → In q first ⊎ ((q ≡ r) ⊎ In q others) → In q all → (q : HashPathResult) × In q first × (x ≡ q.start)
        by q e (inl k) j = (q, k, e)
        by q e (inr (inl k)) j = absurd (true≢false (sym (before q e j) ∙ ap (λ (v : HashPathResult). is_before v.hash left.hash) k
            ∙ ap (λ w. is_before w left.hash) r_hash ∙ is_before-irrefl left.hash))
        by q e (inr (inr k)) j = absurd (true≢false (sym (before q e j) ∙ ap (is_before q.hash) (sym r_hash) ∙ ascending-behind first r others list.ascending q k))

    listed_in_order : (q : HashPathResult) → In q new.issued → (z : ℕ) → is_issued z q.issuer ≡ true → is_issued z (issue_results c first) ≡ true
    listed_in_order q i z h =
        let f = there q (In-append_left new.issued (left ∷ new.others) q i) in
        let p = component_at f.0 f.1 in
        let g = first_of f.0 f.1 (ap (λ (v : HashPathResult). is_before v.hash left.hash) (sym f.2) ∙ lesser q i) in
        let k = component_of g.0 (there_first g.0 g.1) in
        let z_there : is_issued z (result_of ρ D c f.0).issuer ≡ true = ap (λ (v : HashPathResult). is_issued z v.issuer) (sym f.2) ∙ h in
        let m = p.whole g.0.issuer k.closed f.0 z p.start z_there (ap (λ y. is_issued y g.0.issuer) g.2 ∙ k.start) in
        issue_results-issued c first g.0 z g.1 (In-from_is_issued z g.0.issuer m)

    in_order : (z : ℕ) → In z (issue_results c new.issued) → In z (issue_results c first)
    in_order z i = In-from_is_issued z (issue_results c first) (by (issued_issue_results_from c new.issued z (is_issued-from_In z (issue_results c new.issued) i)))
      where
        by : (is_issued z c ≡ true) ⊎ ((q : HashPathResult) × In q new.issued × In z q.issuer) → is_issued z (issue_results c first) ≡ true
        by (inl h) = issue_results-keeps c first z h
        by (inr q) = listed_in_order q.0 q.1 z (is_issued-from_In z q.0.issuer q.2)

    in_order_back : (z : ℕ) → In z (issue_results c first) → In z (issue_results c new.issued)
    in_order_back z i = In-from_is_issued z (issue_results c new.issued) (by (issued_issue_results_from c first z (is_issued-from_In z (issue_results c first) i)))
      where
        by : (is_issued z c ≡ true) ⊎ ((q : HashPathResult) × In q first × In z q.issuer) → is_issued z (issue_results c new.issued) ≡ true
        by (inl h) = issue_results-keeps c new.issued z h
        by (inr q) = listed_in_run q.0 q.1 z (is_issued-from_In z q.0.issuer q.2)

    as_long : length (issue_results c new.issued) ≡ length (issue_results c first)
    as_long = same_length (issue_results c new.issued) (issue_results c first) (are_distinct_from_once _ (issue_results-once c new.issued canonical.once))
        (are_distinct_from_once _ (issue_results-once c first canonical.once)) in_order in_order_back

    -- ---- the one result and the other are new there

    left_fresh : (y : ℕ) → is_issued y left.issuer ≡ true → is_issued y (issue_results c new.issued) ≡ false
    left_fresh y h = false_from_ne_true (is_issued y (issue_results c new.issued)) (λ e. by (issued_issue_results_from c new.issued y e))
      where
        by : (is_issued y c ≡ true) ⊎ ((q : HashPathResult) × In q new.issued × In y q.issuer) → ⊥
        by (inl g) = true≢false (sym g ∙ left_component.free y h)
        by (inr q) =
            let f = there q.0 (In-append_left new.issued (left ∷ new.others) q.0 q.1) in
            let p = subst (λ (v : HashPathResult). IsComponent D quads c v.start v.issuer) (sym f.2) (component_at f.0 f.1) in
            let m = meets left.start q.0.start y left.issuer q.0.issuer left_component p h (is_issued-from_In y q.0.issuer q.2) in
            true≢false (sym (issue_results-issued c new.issued q.0 left.start q.1 (In-from_is_issued left.start q.0.issuer m)) ∙ new.left_new)

    r_fresh : (y : ℕ) → is_issued y r.issuer ≡ true → is_issued y (issue_results c first) ≡ false
    r_fresh y h = false_from_ne_true (is_issued y (issue_results c first)) (λ e. by (issued_issue_results_from c first y e))
      where
        by : (is_issued y c ≡ true) ⊎ ((q : HashPathResult) × In q first × In y q.issuer) → ⊥
        by (inl g) = true≢false (sym g ∙ (component_of r r_there).free y h)
        by (inr q) =
            let m = meets r.start q.0.start y r.issuer q.0.issuer (component_of r r_there) (component_of q.0 (there_first q.0 q.1)) h (is_issued-from_In y q.0.issuer q.2) in
            true≢false (sym (listed_in_run q.0 q.1 right.start (subst (λ x. is_issued x q.0.issuer ≡ true) start m)) ∙ new.right_new)

    -- ---- a symmetry that carries what comes of the one to what comes of the other

    front : (issued : List HashPathResult) (q : HashPathResult) (rest : List HashPathResult) → AreOnce q.issuer
        → ((y : ℕ) → is_issued y q.issuer ≡ true → is_issued y (issue_results c issued) ≡ false)
        → BeginsWith (issue_results c issued ++ q.issuer) (issue_results c (issued ++ q ∷ rest))
    front issued q rest once fresh = subst (BeginsWith (issue_results c issued ++ q.issuer))
        (sym (issue_results-append c issued (q ∷ rest) ∙ ap (λ x. issue_results x rest) (issue_each-new (issue_results c issued) q.issuer once fresh)))
        (issue_results-begins (issue_results c issued ++ q.issuer) rest)

    module _ (run order : List ℕ) (run_begins : BeginsWith (issue_results c (counted_results ρ D c new.class)) run) (order_begins : BeginsWith (issue_results c all) order)
        (σ : Symmetry D) (e : order ≡ map σ.relabelling.to run) where
      abbrev to : ℕ → ℕ
      to = σ.relabelling.to

      left_front : BeginsWith (issue_results c new.issued ++ left.issuer) run
      left_front = begins_trans (issue_results c new.issued ++ left.issuer) (issue_results c (counted_results ρ D c new.class)) run
          (subst (λ rs. BeginsWith (issue_results c new.issued ++ left.issuer) (issue_results c rs)) (sym new.results_are)
          (front new.issued left new.others left_component.distinct left_fresh)) run_begins

      r_front : BeginsWith (issue_results c first ++ r.issuer) order
      r_front = begins_trans (issue_results c first ++ r.issuer) (issue_results c all) order (front first r others (component_of r r_there).distinct r_fresh) order_begins

      parts : (issue_results c first ≡ map to (issue_results c new.issued)) × (r.issuer ++ r_front.tail ≡ map to left.issuer ++ map to left_front.tail)
      parts = append_split (issue_results c first) (r.issuer ++ r_front.tail) (map to (issue_results c new.issued)) (map to left.issuer ++ map to left_front.tail)
          (sym as_long ∙ sym (length-map (issue_results c new.issued) to))
          (sym (append_assoc (issue_results c first) r.issuer r_front.tail) ∙ sym r_front.is ∙ e
          ∙ ap (map to) (left_front.is ∙ append_assoc (issue_results c new.issued) left.issuer left_front.tail)
          ∙ map-append to (issue_results c new.issued) (left.issuer ++ left_front.tail) ∙ ap (λ w. map to (issue_results c new.issued) ++ w) (map-append to left.issuer left_front.tail))

      c_stays : c ≡ map to c
      c_stays =
          let a = issue_results-begins c new.issued in
          let b = issue_results-begins c first in
          (append_split c b.tail (map to c) (map to a.tail) (sym (length-map c to)) (sym b.is ∙ parts.0 ∙ ap (map to) a.is ∙ map-append to c a.tail)).0

      fixes : Keeps σ.relabelling.to c
      fixes x h = map_same_in to (λ y. y) c (sym c_stays ∙ sym (map_identity (λ y. y) (λ y. refl) c)) x h

      r_is : r.issuer ≡ map σ.relabelling.to left.issuer
      r_is = issuer_is ρ D valid c σ fixes left r left_outcome (list.outcomes r r_there) (map to left_front.tail) r_front.tail parts.1

      pub left_joined : IsJoined D c left.issuer right.issuer
      left_joined =
          let u = unique_up_to_symmetry ρ D c r.start (r.start ∷ []) (joined_start ρ D c starts joined r.start (start_in r r_there)) r.hash r.issuer (list.outcomes r r_there) in
          let s = u.symmetry in
          let from = s.relabelling.from in
          let of_right : r.issuer ≡ map s.relabelling.to right.issuer = u.issuer_is ∙ ap (λ x. map s.relabelling.to (result_of ρ D c x).issuer) start
          ∙ ap (λ (q : HashPathResult). map s.relabelling.to q.issuer) (sym right_start.1) in
          (joined_where_symmetric ρ D valid c [] left.issuer right.issuer (inl tie.tied)).1 (record {
            symmetry = composed_symmetry D (inverse_symmetry D s) σ;
            fixes_canonical = λ x h. ap from (fixes x (is_issued-from_In x c h) ∙ sym (u.fixes_canonical x h)) ∙ s.relabelling.from-to x;
            fixes_passed = λ x h. absurd h;
            right_is =
                sym (map_back s.relabelling.to from (same_test s.relabelling.to from s.relabelling.from-to) s.relabelling.from-to s.relabelling.to-from right.issuer)
                ∙ ap (map from) (sym of_right ∙ r_is) ∙ map-map from to left.issuer;
          })
