-- Two results that are tied and not joined may both be issued for first, and what comes of the one is not carried to what comes of the other.
use Rattle.std.proofs.Common.{Bool, List, [], ap, append_assoc, cond, false, inl, inr, map, refl, subst, suc, sym, true, true≢false, ℕ, ◌++◌, ◌∙◌, ◌∷◌, ◌≡◌, ◌⊎◌}
use Rattle.std.proofs.lemmas.Bool.{cases_eq, false_from_ne_true}
use Rattle.rdf_terms.proofs.Common.{In-append_left, In-Permutes, Permutes-from_equal, Permutes-map, Permutes-sym, is_at_most-from_not_before, is_at_most-refl, Dataset, IsValid, Symmetry, AreDistinct, In, Permutes, Text, is_at_most, permutes_cons, permutes_swap, permutes_trans}
use Rattle.canon_model.specs.Allowed.{HashPathResult, IsCanonicalList, IsHashPathList, IssuesForHashes, issue_results, issued_for_unique_hashes, start_of, unissued_nodes}
use Rattle.canon_model.specs.CountedRun.{counted_hashes, insert_result, result_of, sort_results}
use Rattle.canon_model.specs.Coverage.{BeginsWith}
use Rattle.canon_model.specs.FirstDegree.{hash_first_degree_quads}
use Rattle.canon_model.specs.Issuer.{is_issued, issue_each}
use Rattle.canon_model.specs.Outcome.{HashNDegreeQuads}
use Rattle.canon_model.specs.Hashing.{Hashing}
use Rattle.canon_model.specs.Ties.{IsJoined}
use Rattle.canon_model.specs.TwoLists.{HasOutcomeFrom, HasTwoLists, MayBeIssuedFirst, UnjoinedGivesTwoLists}
use Rattle.canon_model.proofs.CanonicalLists.{AreCanonical, issues_for_hashes-canonical, results-canonical, unique_hashes-canonical}
use Rattle.canon_model.proofs.Components.{IsComponent}
use Rattle.canon_model.proofs.CountedAllowed.{counted_hashes-issue, outcome_of_start}
use Rattle.canon_model.proofs.Equivariance.{equivariance}
use Rattle.canon_model.proofs.ExchangeSymmetry.{IsClosed, append_split, map_same_in}
use Rattle.canon_model.proofs.IssueEach.{issue_each-new}
use Rattle.canon_model.proofs.IssuedLists.{issued_issue_results_from}
use Rattle.canon_model.proofs.Issuers.{AreOnce, In-from_is_issued, Keeps, are_distinct_from_once, begins_refl, begins_trans, is_issued-begins, is_issued-from_In, is_issued-from_not_In, map_fixed}
use Rattle.canon_model.proofs.LocalSymmetry.{are_quads, in_split}
use Rattle.canon_model.proofs.Maps.{map_identity}
use Rattle.canon_model.proofs.OutcomeComponents.{component_of_outcome}
use Rattle.canon_model.proofs.OutcomesGrow.{n_degree_within-grows}
use Rattle.canon_model.proofs.SortedResults.{sort_results-ascending, sort_results-permutes}
use Rattle.canon_model.proofs.StartNodes.{In-unissued_nodes}
use Rattle.canon_model.proofs.TieSymmetry.{joined_where_symmetric}
use Rattle.canon_model.proofs.Totality.{mentions_nodes}
use Rattle.std.proofs.lemmas.List.{length-map, map-append}

-- ---- what is issued begins with what was there

issue_each-begins : (c ms : List ℕ) → BeginsWith c (issue_each c ms)
issue_each-begins c [] = begins_refl c
issue_each-begins c (m ∷ ms) =
    begins_trans c (cond (is_issued m c) c (c ++ m ∷ [])) (issue_each (cond (is_issued m c) c (c ++ m ∷ [])) ms) (by (is_issued m c)) (issue_each-begins (cond (is_issued m c) c (c ++ m ∷ [])) ms)
  where
    by : (t : Bool) → BeginsWith c (cond t c (c ++ m ∷ []))
    by true = begins_refl c
    by false = record { tail = m ∷ []; is = refl }

issue_results-begins : (c : List ℕ) (rs : List HashPathResult) → BeginsWith c (issue_results c rs)
issue_results-begins c [] = begins_refl c
issue_results-begins c (r ∷ rs) = begins_trans c (issue_each c r.issuer) (issue_results (issue_each c r.issuer) rs) (issue_each-begins c r.issuer) (issue_results-begins (issue_each c r.issuer) rs)

pub issue_results-append : (c : List ℕ) (rs qs : List HashPathResult) → issue_results c (rs ++ qs) ≡ issue_results (issue_results c rs) qs
issue_results-append c [] qs = refl
issue_results-append c (r ∷ rs) qs = issue_results-append (issue_each c r.issuer) rs qs

module _ (ρ : Hashing) (D : Dataset) where
  issues_for_hashes-begins : (hs : List Text) (c d : List ℕ) → IssuesForHashes ρ D hs c d → BeginsWith c d
  issues_for_hashes-begins [] c d w = subst (BeginsWith c) (sym w) (begins_refl c)
  issues_for_hashes-begins (h ∷ hs) c d w = begins_trans c (issue_results c w.results) d (issue_results-begins c w.results) (issues_for_hashes-begins hs (issue_results c w.results) d w.following)

  issues_for_hashes-append : (hs gs : List Text) (c d e : List ℕ) → IssuesForHashes ρ D hs c d → IssuesForHashes ρ D gs d e → IssuesForHashes ρ D (hs ++ gs) c e
  issues_for_hashes-append [] gs c d e v w = subst (λ x. IssuesForHashes ρ D gs x e) v w
  issues_for_hashes-append (h ∷ hs) gs c d e v w = record { results = v.results; list = v.list; following = issues_for_hashes-append hs gs (issue_results c v.results) d e v.following w }

-- ---- where a result is put among those in order

-- the results of lesser hash, and the others; a result of the hash is put between them
record Cut (k : Text) (qs : List HashPathResult) : Type 0 where
  lesser : List HashPathResult
  others : List HashPathResult
  is : qs ≡ lesser ++ others
  are_lesser : (q : HashPathResult) → In q lesser → is_at_most k q.hash ≡ false
  put : (t : HashPathResult) → t.hash ≡ k → insert_result t qs ≡ lesser ++ t ∷ others

cut : (k : Text) (qs : List HashPathResult) → Cut k qs
cut k [] = record { lesser = []; others = []; is = refl; are_lesser = λ q h. absurd h; put = λ t e. refl }
cut k (q ∷ qs) = by (is_at_most k q.hash) refl (cut k qs)
  where
    by : (s : Bool) → is_at_most k q.hash ≡ s → Cut k qs → Cut k (q ∷ qs)
    by true e r = record {
      lesser = [];
      others = q ∷ qs;
      is = refl;
      are_lesser = λ p h. absurd h;
      put = λ t f. ap (λ s. cond s (t ∷ q ∷ qs) (q ∷ insert_result t qs)) (ap (λ w. is_at_most w q.hash) f ∙ e);
    }
    by false e r = record {
      lesser = q ∷ r.lesser;
      others = r.others;
      is = ap (λ w. q ∷ w) r.is;
      are_lesser = λ p. elim [
        | inl h ↦ subst (λ (w : HashPathResult). is_at_most k w.hash ≡ false) (sym h) e
        | inr h ↦ r.are_lesser p h
      ];
      put = λ t f. ap (λ s. cond s (t ∷ q ∷ qs) (q ∷ insert_result t qs)) (ap (λ w. is_at_most w q.hash) f ∙ e) ∙ ap (λ w. q ∷ w) (r.put t f);
    }

insert_result-behind : (k : Text) (t : HashPathResult) → t.hash ≡ k → (ps qs : List HashPathResult) → ((q : HashPathResult) → In q ps → is_at_most k q.hash ≡ false)
    → insert_result t (ps ++ qs) ≡ ps ++ insert_result t qs
insert_result-behind k t e [] qs f = refl
insert_result-behind k t e (p ∷ ps) qs f =
    ap (λ s. cond s (t ∷ p ∷ (ps ++ qs)) (p ∷ insert_result t (ps ++ qs))) (ap (λ w. is_at_most w p.hash) e ∙ f p (inl refl))
    ∙ ap (λ w. p ∷ w) (insert_result-behind k t e ps qs (λ q h. f q (inr h)))

-- two results of the hash: the one that is put last is first
insert_two : (k : Text) (qs : List HashPathResult) (r s : HashPathResult) → r.hash ≡ k → s.hash ≡ k → insert_result r (insert_result s qs) ≡ (cut k qs).lesser ++ r ∷ s ∷ (cut k qs).others
insert_two k qs r s e f =
    let u = cut k qs in
    ap (insert_result r) (u.put s f)
    ∙ insert_result-behind k r e u.lesser (s ∷ u.others) u.are_lesser
    ∙ ap (λ t. u.lesser ++ cond t (r ∷ s ∷ u.others) (s ∷ insert_result r u.others)) ((λ i. is_at_most (e i) (f i)) ∙ is_at_most-refl k)

-- ---- lists with the same nodes that one list begins with

same_front : (xs ys us vs : List ℕ) → xs ++ us ≡ ys ++ vs → AreDistinct xs → AreDistinct ys → ((x : ℕ) → In x xs → In x ys) → ((x : ℕ) → In x ys → In x xs) → xs ≡ ys
same_front [] [] us vs e d f to from = refl
same_front [] (y ∷ ys) us vs e d f to from = absurd (from y (inl refl))
same_front (x ∷ xs) [] us vs e d f to from = absurd (to x (inl refl))
same_front (x ∷ xs) (y ∷ ys) us vs e d f to from =
    λ i. head i ∷ same_front xs ys us vs tail d.1 f.1
    (λ z h. elim (to z (inr h)) [ inl q ↦ absurd (d.0 (subst (λ w. In w xs) (q ∙ sym head) h)) | inr q ↦ q ])
    (λ z h. elim (from z (inr h)) [ inl q ↦ absurd (f.0 (subst (λ w. In w ys) (q ∙ head) h)) | inr q ↦ q ]) i
  where
    head : x ≡ y
    head = cc

    tail : xs ++ us ≡ ys ++ vs
    tail = cc

-- ---- two lists of results

module _ (ρ : Hashing) (D : Dataset) (valid : IsValid D) (c l m : List ℕ) (t : MayBeIssuedFirst ρ D c l m) where
  abbrev class : Text
  class = hash_first_degree_quads ρ D t.tied.left_start

  abbrev left : HashPathResult
  left = record { start = t.tied.left_start; hash = t.tied.hash; issuer = l }

  abbrev right : HashPathResult
  right = record { start = t.tied.right_start; hash = t.tied.hash; issuer = m }

  canonical : AreCanonical D c
  canonical = issues_for_hashes-canonical ρ D (mentions_nodes D valid) t.may_have_issued.before (issued_for_unique_hashes ρ D) c t.may_have_issued.issued (unique_hashes-canonical ρ D)

  component_at : (x : ℕ) (h : Text) (j : List ℕ) → HashNDegreeQuads ρ D c x (x ∷ []) h j → IsComponent D (are_quads D valid) c x j
  component_at x h j w = component_of_outcome ρ D (mentions_nodes D valid) (are_quads D valid) c x h j w

  left_component : IsComponent D (are_quads D valid) c t.tied.left_start l
  left_component = component_at t.tied.left_start t.tied.hash l t.tied.left_outcome

  right_component : IsComponent D (are_quads D valid) c t.tied.right_start m
  right_component = component_at t.tied.right_start t.tied.hash m t.tied.right_outcome

  in_class : (x : ℕ) (h : Text) (j : List ℕ) → HashNDegreeQuads ρ D c x (x ∷ []) h j → hash_first_degree_quads ρ D x ≡ class → In x (unissued_nodes ρ D c class)
  in_class x h j w e = In-unissued_nodes ρ D c class x (w.valid.temporary_nodes x (inl refl)) e (is_issued-from_not_In x c (λ i. w.valid.apart x i (inl refl)))

  left_in : In t.tied.left_start (unissued_nodes ρ D c class)
  left_in = in_class t.tied.left_start t.tied.hash l t.tied.left_outcome refl

  right_in : In t.tied.right_start (unissued_nodes ρ D c class)
  right_in = in_class t.tied.right_start t.tied.hash m t.tied.right_outcome (sym t.tied.same_first_degree_hash)

  -- an outcome, and if its hash is lesser it lists no node of the two lists
  record IsSafe (q : HashPathResult) : Type 0 where
    outcome : HashNDegreeQuads ρ D c q.start (q.start ∷ []) q.hash q.issuer
    apart : is_at_most t.tied.hash q.hash ≡ false → (y : ℕ) → is_issued y q.issuer ≡ true → (is_issued y l ≡ false) × (is_issued y m ≡ false)

  safe_of : (x : ℕ) → In x (unissued_nodes ρ D c class) → (q : HashPathResult) × (q.start ≡ x) × IsSafe q
  safe_of x i = by (is_issued x l) refl (is_issued x m) refl
    where
      given : HasOutcomeFrom ρ D c t.tied.hash x → (q : HashPathResult) × (q.start ≡ x) × IsSafe q
      given g = (
        record { start = x; hash = g.own_hash; issuer = g.issuer },
        refl,
        record { outcome = g.outcome; apart = λ e. absurd (true≢false (sym (is_at_most-from_not_before t.tied.hash g.own_hash g.not_before) ∙ e)) },
      )

      w : HashNDegreeQuads ρ D c x (x ∷ []) (result_of ρ D c x).hash (result_of ρ D c x).issuer
      w = outcome_of_start ρ D valid c canonical class x i

      p : IsComponent D (are_quads D valid) c x (result_of ρ D c x).issuer
      p = component_at x (result_of ρ D c x).hash (result_of ρ D c x).issuer w

      off : (j : List ℕ) → IsClosed D (are_quads D valid) c j → is_issued x j ≡ false → (y : ℕ) → is_issued y (result_of ρ D c x).issuer ≡ true → is_issued y j ≡ false
      off j closed e y g = false_from_ne_true (is_issued y j) (λ k. true≢false (sym (p.whole j closed y x g p.start k) ∙ e))

      by : (a : Bool) → is_issued x l ≡ a → (b : Bool) → is_issued x m ≡ b → (q : HashPathResult) × (q.start ≡ x) × IsSafe q
      by true e b f = given (t.none_lesser x i (inl (In-from_is_issued x l e)))
      by false e true f = given (t.none_lesser x i (inr (In-from_is_issued x m f)))
      by false e false f = (result_of ρ D c x, refl, record { outcome = w; apart = λ k y g. (off l left_component.closed e y g, off m right_component.closed f y g) })

  record Picked (xs : List ℕ) : Type 0 where
    results : List HashPathResult
    starts : map start_of results ≡ xs
    safe : (q : HashPathResult) → In q results → IsSafe q

  picked : (xs : List ℕ) → ((x : ℕ) → In x xs → In x (unissued_nodes ρ D c class)) → Picked xs
  picked [] sub = record { results = []; starts = refl; safe = λ q h. absurd h }
  picked (x ∷ xs) sub =
      let a = safe_of x (sub x (inl refl)) in
      let r = picked xs (λ y h. sub y (inr h)) in
      record {
        results = a.0 ∷ r.results;
        starts = λ i. a.1 i ∷ r.starts i;
        safe = λ q. elim [ inl e ↦ subst IsSafe (sym e) a.2 | inr h ↦ r.safe q h ];
      }

  sorted_list : (rs : List HashPathResult) → Permutes (unissued_nodes ρ D c class) (map start_of rs) → ((q : HashPathResult) → In q rs → HashNDegreeQuads ρ D c q.start (q.start ∷ []) q.hash q.issuer)
      → IsHashPathList ρ D c class (sort_results rs)
  sorted_list rs e f = record {
    one_each = permutes_trans e (Permutes-map start_of (sort_results-permutes rs));
    outcomes = λ q h. f q (In-Permutes q (Permutes-sym (sort_results-permutes rs)) h);
    ascending = sort_results-ascending rs;
  }

  -- the same results of lesser hash, and then the one result or the other
  record Lists : Type 0 where
    first : List HashPathResult
    left_rest : List HashPathResult
    right_rest : List HashPathResult
    left_list : IsHashPathList ρ D c class (first ++ left ∷ left_rest)
    right_list : IsHashPathList ρ D c class (first ++ right ∷ right_rest)
    apart : (q : HashPathResult) → In q first → (y : ℕ) → is_issued y q.issuer ≡ true → (is_issued y l ≡ false) × (is_issued y m ≡ false)

  lesser_apart : (xs : List ℕ) (p : Picked xs) (q : HashPathResult) → In q (cut t.tied.hash (sort_results p.results)).lesser → (y : ℕ) → is_issued y q.issuer ≡ true
      → (is_issued y l ≡ false) × (is_issued y m ≡ false)
  lesser_apart xs p q h =
      let u = cut t.tied.hash (sort_results p.results) in
      (p.safe q (In-Permutes q (Permutes-sym (sort_results-permutes p.results)) (subst (In q) (sym u.is) (In-append_left u.lesser u.others q h)))).apart (u.are_lesser q h)

  lists : Lists
  lists = by (cases_eq t.tied.left_start t.tied.right_start)
    where
      u : (zs : List ℕ) × Permutes (unissued_nodes ρ D c class) (t.tied.left_start ∷ zs)
      u = in_split t.tied.left_start (unissued_nodes ρ D c class) left_in

      by : (t.tied.left_start ≡ t.tied.right_start) ⊎ (t.tied.left_start ≡ t.tied.right_start → ⊥) → Lists
      by (inl e) =
          let p = picked u.0 (λ x h. In-Permutes x (Permutes-sym u.1) (inr h)) in
          let k = cut t.tied.hash (sort_results p.results) in
          record {
            first = k.lesser;
            left_rest = k.others;
            right_rest = k.others;
            left_list = subst (IsHashPathList ρ D c class) (k.put left refl)
                (sorted_list (left ∷ p.results) (subst (λ w. Permutes (unissued_nodes ρ D c class) (t.tied.left_start ∷ w)) (sym p.starts) u.1)
                (λ q. elim [ inl a ↦ subst (λ (v : HashPathResult). HashNDegreeQuads ρ D c v.start (v.start ∷ []) v.hash v.issuer) (sym a) t.tied.left_outcome | inr a ↦ (p.safe q a).outcome ]));
            right_list = subst (IsHashPathList ρ D c class) (k.put right refl)
                (sorted_list (right ∷ p.results) (permutes_trans u.1 (Permutes-from_equal (λ i. e i ∷ sym p.starts i)))
                (λ q. elim [ inl a ↦ subst (λ (v : HashPathResult). HashNDegreeQuads ρ D c v.start (v.start ∷ []) v.hash v.issuer) (sym a) t.tied.right_outcome | inr a ↦ (p.safe q a).outcome ]));
            apart = lesser_apart u.0 p;
          }
      by (inr n) = two (in_split t.tied.right_start u.0 (there (In-Permutes t.tied.right_start u.1 right_in)))
        where
          there : (t.tied.right_start ≡ t.tied.left_start) ⊎ In t.tied.right_start u.0 → In t.tied.right_start u.0
          there (inl e) = absurd (n (sym e))
          there (inr h) = h

          two : (zs : List ℕ) × Permutes u.0 (t.tied.right_start ∷ zs) → Lists
          two v =
              let all : Permutes (unissued_nodes ρ D c class) (t.tied.left_start ∷ t.tied.right_start ∷ v.0) = permutes_trans u.1 (permutes_cons v.1) in
              let p = picked v.0 (λ x h. In-Permutes x (Permutes-sym all) (inr (inr h))) in
              let listed : Permutes (unissued_nodes ρ D c class) (t.tied.left_start ∷ t.tied.right_start ∷ map start_of p.results) = permutes_trans all
              (Permutes-from_equal (λ i. t.tied.left_start ∷ t.tied.right_start ∷ sym p.starts i)) in
              record {
                first = (cut t.tied.hash (sort_results p.results)).lesser;
                left_rest = right ∷ (cut t.tied.hash (sort_results p.results)).others;
                right_rest = left ∷ (cut t.tied.hash (sort_results p.results)).others;
                left_list = subst (IsHashPathList ρ D c class) (insert_two t.tied.hash (sort_results p.results) left right refl refl)
                    (sorted_list (left ∷ right ∷ p.results) listed
                    (λ q. elim [
                      | inl a ↦ subst (λ (v : HashPathResult). HashNDegreeQuads ρ D c v.start (v.start ∷ []) v.hash v.issuer) (sym a) t.tied.left_outcome
                      | inr b ↦ elim b [
                        | inl a ↦ subst (λ (v : HashPathResult). HashNDegreeQuads ρ D c v.start (v.start ∷ []) v.hash v.issuer) (sym a) t.tied.right_outcome
                        | inr a ↦ (p.safe q a).outcome
                      ]
                    ]));
                right_list = subst (IsHashPathList ρ D c class) (insert_two t.tied.hash (sort_results p.results) right left refl refl)
                    (sorted_list (right ∷ left ∷ p.results) (permutes_trans listed permutes_swap)
                    (λ q. elim [
                      | inl a ↦ subst (λ (v : HashPathResult). HashNDegreeQuads ρ D c v.start (v.start ∷ []) v.hash v.issuer) (sym a) t.tied.right_outcome
                      | inr b ↦ elim b [
                        | inl a ↦ subst (λ (v : HashPathResult). HashNDegreeQuads ρ D c v.start (v.start ∷ []) v.hash v.issuer) (sym a) t.tied.left_outcome
                        | inr a ↦ (p.safe q a).outcome
                      ]
                    ]));
                apart = lesser_apart v.0 p;
              }

  -- ---- what comes of them

  record Ended (first : List HashPathResult) (q : HashPathResult) : Type 0 where
    list : List ℕ
    allowed : IsCanonicalList ρ D list
    begins : BeginsWith (issue_results c first ++ q.issuer) list

  ended : (first : List HashPathResult) (q : HashPathResult) (rest : List HashPathResult) → IsHashPathList ρ D c class (first ++ q ∷ rest) → AreOnce q.issuer
      → ((y : ℕ) → is_issued y q.issuer ≡ true → is_issued y (issue_results c first) ≡ false) → Ended first q
  ended first q rest w once new =
      let from = issue_results c (first ++ q ∷ rest) in
      let end = (counted_hashes ρ D t.may_have_issued.behind from).value in
      let v : IssuesForHashes ρ D t.may_have_issued.behind from end = counted_hashes-issue ρ D valid t.may_have_issued.behind from
      (results-canonical ρ D (mentions_nodes D valid) c class (first ++ q ∷ rest) w canonical) in
      let from_is : from ≡ issue_results (issue_results c first ++ q.issuer) rest = issue_results-append c first (q ∷ rest)
      ∙ ap (λ x. issue_results x rest) (issue_each-new (issue_results c first) q.issuer once new) in
      record {
        list = end;
        allowed = subst (λ hs. IssuesForHashes ρ D hs (issued_for_unique_hashes ρ D) end) (sym t.may_have_issued.hashes_are)
            (issues_for_hashes-append ρ D t.may_have_issued.before (class ∷ t.may_have_issued.behind) (issued_for_unique_hashes ρ D) c end t.may_have_issued.issued
            (record { results = first ++ q ∷ rest; list = w; following = v }));
        begins =
            begins_trans (issue_results c first ++ q.issuer) from end (subst (BeginsWith (issue_results c first ++ q.issuer)) (sym from_is)
            (issue_results-begins (issue_results c first ++ q.issuer) rest)) (issues_for_hashes-begins ρ D t.may_have_issued.behind from end v);
      }

  -- the nodes of a component without canonical identifiers are new, where the results before list none of them
  are_new : (first : List HashPathResult) (j : List ℕ) → ((y : ℕ) → is_issued y j ≡ true → is_issued y c ≡ false)
      → ((q : HashPathResult) → In q first → (y : ℕ) → is_issued y q.issuer ≡ true → is_issued y j ≡ false) → (y : ℕ) → is_issued y j ≡ true → is_issued y (issue_results c first) ≡ false
  are_new first j free apart y g = false_from_ne_true (is_issued y (issue_results c first)) (λ e. elim (issued_issue_results_from c first y e) [
    | inl a ↦ true≢false (sym a ∙ free y g)
    | inr r ↦ true≢false (sym g ∙ apart r.0 r.1 y (is_issued-from_In y r.0.issuer r.2))
  ])

  -- ---- a symmetry that carries the one to the other carries the one result to the other

  module _ (σ : Symmetry D) (front : List ℕ) (begins : BeginsWith c front) (us vs : List ℕ) (e : (front ++ m) ++ vs ≡ map σ.relabelling.to ((front ++ l) ++ us)) where
    abbrev to : ℕ → ℕ
    to = σ.relabelling.to

    parts : (front ≡ map σ.relabelling.to front) × (m ++ vs ≡ map σ.relabelling.to l ++ map σ.relabelling.to us)
    parts = append_split front (m ++ vs) (map to front) (map to l ++ map to us) (sym (length-map front to))
        (sym (append_assoc front m vs) ∙ e ∙ ap (map to) (append_assoc front l us) ∙ map-append to front (l ++ us) ∙ ap (λ w. map to front ++ w) (map-append to l us))

    fixes : Keeps σ.relabelling.to c
    fixes x h = map_same_in to (λ y. y) front (sym parts.0 ∙ sym (map_identity (λ y. y) (λ y. refl) front)) x (is_issued-begins x c front begins h)

    left_begins : BeginsWith (t.tied.left_start ∷ []) l
    left_begins = (n_degree_within-grows c ρ D (suc D.nodes) t.tied.left_start (t.tied.left_start ∷ []) t.tied.hash l (refl, tt) t.tied.left_outcome.outcome).0

    right_begins : BeginsWith (t.tied.right_start ∷ []) m
    right_begins = (n_degree_within-grows c ρ D (suc D.nodes) t.tied.right_start (t.tied.right_start ∷ []) t.tied.hash m (refl, tt) t.tied.right_outcome.outcome).0

    start_is : t.tied.right_start ≡ σ.relabelling.to t.tied.left_start
    start_is =
        let same : Path (List ℕ) (t.tied.right_start ∷ (right_begins.tail ++ vs)) (to t.tied.left_start ∷ (map to left_begins.tail ++ map to us)) =
        ap (λ w. w ++ vs) (sym right_begins.is) ∙ parts.1 ∙ ap (λ w. map to w ++ map to us) left_begins.is in
        cc

    moved : HashNDegreeQuads ρ D c t.tied.right_start (t.tied.right_start ∷ []) t.tied.hash (map σ.relabelling.to l)
    moved = subst (λ d. HashNDegreeQuads ρ D d t.tied.right_start (t.tied.right_start ∷ []) t.tied.hash (map to l)) (map_fixed to c fixes)
        (subst (λ x. HashNDegreeQuads ρ D (map to c) x (x ∷ []) t.tied.hash (map to l)) (sym start_is)
        ((equivariance ρ D D σ.relabelling σ.keeps c t.tied.left_start (t.tied.left_start ∷ []) t.tied.hash l).0 t.tied.left_outcome))

    right_is : m ≡ map σ.relabelling.to l
    right_is =
        let a = component_at t.tied.right_start t.tied.hash (map to l) moved in
        let b = right_component in
        same_front m (map to l) vs (map to us) parts.1 (are_distinct_from_once m b.distinct) (are_distinct_from_once (map to l) a.distinct)
        (λ z h. In-from_is_issued z (map to l) (b.whole (map to l) a.closed t.tied.right_start z b.start (is_issued-from_In z m h) a.start))
        (λ z h. In-from_is_issued z m (a.whole m b.closed t.tied.right_start z a.start (is_issued-from_In z (map to l) h) b.start))

    pub joined : IsJoined D c l m
    joined =
        (joined_where_symmetric ρ D valid c [] l m (inl t.tied)).1 (record {
          symmetry = σ;
          fixes_canonical = λ x h. fixes x (is_issued-from_In x c h);
          fixes_passed = λ x h. absurd h;
          right_is = right_is;
        })

  pub two_lists : ¬ (IsJoined D c l m) → HasTwoLists ρ D
  two_lists n =
      let a = ended lists.first left lists.left_rest lists.left_list left_component.distinct (are_new lists.first l left_component.free (λ q h y g. (lists.apart q h y g).0)) in
      let b = ended lists.first right lists.right_rest lists.right_list right_component.distinct (are_new lists.first m right_component.free (λ q h y g. (lists.apart q h y g).1)) in
      record {
        first = a.list;
        second = b.list;
        first_allowed = a.allowed;
        second_allowed = b.allowed;
        not_carried = λ σ e. n (joined σ (issue_results c lists.first) (issue_results-begins c lists.first) a.begins.tail b.begins.tail (sym b.begins.is ∙ e ∙ ap (map σ.relabelling.to) a.begins.is));
      }

pub unjoined_gives_two_lists : UnjoinedGivesTwoLists
unjoined_gives_two_lists ρ D valid c l m t n = two_lists ρ D valid c l m t n
