-- A start node with two outcomes that no symmetry carries to one another gives two outputs.
use Rattle.std.proofs.Common.{Bool, List, [], ap, append_assoc, false, inl, inr, map, refl, subst, sym, true, true≢false, ℕ, ◌++◌, ◌||◌, ◌∙◌, ◌∷◌, ◌≡◌, ◌⊎◌}
use Rattle.std.proofs.Math.Bool.{or-false}
use Rattle.std.proofs.lemmas.Bool.{false_from_ne_true}
use Rattle.std.proofs.lemmas.List.{length-map, map-append}
use Rattle.rdf_terms.proofs.Common.{AreDistinct-Permutes, In-append_left, In-append_right, In-Permutes, Permutes-map, Permutes-sym, Permutes-from_equal, permutes_trans, is_at_most-from_not_before, is_at_most-other, Dataset, IsValid, Symmetry, AreDistinct, In, Permutes, Text, is_at_most, is_before}
use Rattle.canon_core.specs.Outputs.{HasTwoOutputs}
use Rattle.canon_core.proofs.TwoOutputs.{shared_output}
use Rattle.canon_model.specs.Allowed.{HashPathResult, IsCanonicalList, IsHashPathList, IssuesForHashes, canonical_form, issue_results, issued_for_unique_hashes, start_of, unissued_nodes}
use Rattle.canon_model.specs.CountedRun.{counted_hashes, insert_result, result_of, sort_results}
use Rattle.canon_model.specs.Coverage.{BeginsWith}
use Rattle.canon_model.specs.FirstDegree.{hash_first_degree_quads}
use Rattle.canon_model.specs.Hashing.{Hashing}
use Rattle.canon_model.specs.Issuer.{is_issued}
use Rattle.canon_model.specs.Outcome.{HashNDegreeQuads}
use Rattle.canon_model.proofs.CanonicalLists.{AreCanonical, issues_for_hashes-canonical, results-canonical, unique_hashes-canonical}
use Rattle.canon_model.proofs.Components.{IsBase, IsComponent, base-component_new, issue_each-component_new}
use Rattle.canon_model.proofs.CountedAllowed.{counted_hashes-issue, outcome_of_start}
use Rattle.canon_model.proofs.Equivariance.{map_back, same_test}
use Rattle.canon_model.proofs.ExchangeSymmetry.{append_split, map_same_in}
use Rattle.canon_model.proofs.IssuedLists.{issued_issue_results_from}
use Rattle.canon_model.proofs.Issuers.{Keeps, begins_trans, In-from_is_issued, is_issued-append, is_issued-begins, is_issued-from_In, is_issued-from_not_In}
use Rattle.canon_model.proofs.LocalSymmetry.{AreQuads, are_quads, in_split}
use Rattle.canon_model.proofs.Maps.{map_identity}
use Rattle.canon_model.proofs.OneOutput.{base_canonical}
use Rattle.canon_model.proofs.SortedResults.{sort_results-ascending, sort_results-permutes}
use Rattle.canon_model.proofs.StartNodes.{AreDistinct-unissued_nodes, In-unissued_nodes}
use Rattle.canon_model.proofs.Symmetries.{Linked, inverse_fixes, inverse_symmetry}
use Rattle.canon_model.proofs.Totality.{mentions_nodes}
use Rattle.canon_model.proofs.TwoLists.{issue_results-append}
use Rattle.other_output.specs.TwoOutcomes.{HasOutcomeBehind, MayBeIssuedEitherWay, TwoOutcomesGiveTwoOutputs}
use Rattle.other_output.proofs.CarriedFronts.{component, issuers, linked_to_last}
use Rattle.other_output.proofs.FirstStart.{PutBoth, put_both}
use Rattle.other_output.proofs.IssuedFronts.{counted_hashes-begins, issue_results-begins}
use Rattle.other_output.proofs.SameAdded.{SameAdded, base_results, same_added}

module _ (ρ : Hashing) (D : Dataset) (valid : IsValid D) (c : List ℕ) (x : ℕ) (m : MayBeIssuedEitherWay ρ D c x) where
  abbrev class : Text
  class = hash_first_degree_quads ρ D x

  abbrev quads : AreQuads D
  quads = are_quads D valid

  abbrev starts : List ℕ
  starts = unissued_nodes ρ D c class

  canonical : AreCanonical D c
  canonical = issues_for_hashes-canonical ρ D (mentions_nodes D valid) m.may_have_issued.before (issued_for_unique_hashes ρ D) c m.may_have_issued.issued (unique_hashes-canonical ρ D)

  x_in : In x (unissued_nodes ρ D c (hash_first_degree_quads ρ D x))
  x_in =
      let w = m.two.first_outcome in
      In-unissued_nodes ρ D c class x (w.valid.temporary_nodes x (inl refl)) refl (is_issued-from_not_In x c (λ i. w.valid.apart x i (inl refl)))

  parted : (others : List ℕ) × Permutes (unissued_nodes ρ D c (hash_first_degree_quads ρ D x)) (x ∷ others)
  parted = in_split x starts x_in

  -- ---- results of the other start nodes

  -- an outcome; where its start node is in the list, its hash is before neither of the two
  record IsBehind (q : HashPathResult) : Type 0 where
    outcome : HashNDegreeQuads ρ D c q.start (q.start ∷ []) q.hash q.issuer
    behind : is_issued q.start m.two.first ≡ true → (is_before q.hash m.two.first_hash ≡ false) × (is_before q.hash m.two.second_hash ≡ false)

  result_at : (z : ℕ) → In z (unissued_nodes ρ D c (hash_first_degree_quads ρ D x)) → ¬ (z ≡ x) → (q : HashPathResult) × (q.start ≡ z) × IsBehind q
  result_at z i ne = by (is_issued z m.two.first) refl
    where
      given : HasOutcomeBehind ρ D c m.two.first_hash m.two.second_hash z → (q : HashPathResult) × (q.start ≡ z) × IsBehind q
      given g = (record { start = z; hash = g.hash; issuer = g.issuer }, refl, record { outcome = g.outcome; behind = λ h. (g.not_before_one, g.not_before_other) })

      by : (t : Bool) → is_issued z m.two.first ≡ t → (q : HashPathResult) × (q.start ≡ z) × IsBehind q
      by true e = given (m.none_lesser z i (In-from_is_issued z m.two.first e) ne)
      by false e = (result_of ρ D c z, refl, record { outcome = outcome_of_start ρ D valid c canonical class z i; behind = λ h. absurd (true≢false (sym h ∙ e)) })

  record Results (zs : List ℕ) : Type 0 where
    results : List HashPathResult
    starts_are : map start_of results ≡ zs
    behind : (q : HashPathResult) → In q results → IsBehind q

  results_at : (zs : List ℕ) → ((z : ℕ) → In z zs → In z (unissued_nodes ρ D c (hash_first_degree_quads ρ D x)) × (¬ (z ≡ x))) → Results zs
  results_at [] f = record { results = []; starts_are = refl; behind = λ q h. absurd h }
  results_at (z ∷ zs) f =
      let a = result_at z (f z (inl refl)).0 (f z (inl refl)).1 in
      let r = results_at zs (λ y h. f y (inr h)) in
      record {
        results = a.0 ∷ r.results;
        starts_are = λ i. a.1 i ∷ r.starts_are i;
        behind = λ q. elim [ inl e ↦ subst IsBehind (sym e) a.2 | inr h ↦ r.behind q h ];
      }

  others : Results parted.0
  others = results_at parted.0 (λ z h. (In-Permutes z (Permutes-sym parted.1) (inr h), λ e. once.0 (subst (λ w. In w parted.0) e h)))
    where
      once : AreDistinct (x ∷ parted.0)
      once = AreDistinct-Permutes parted.1 (AreDistinct-unissued_nodes ρ D c class)

  abbrev in_order : List HashPathResult
  in_order = sort_results others.results

  behind_of : (q : HashPathResult) → In q (sort_results others.results) → IsBehind q
  behind_of q h = others.behind q (In-Permutes q (Permutes-sym (sort_results-permutes others.results)) h)

  list_with : (r : HashPathResult) → r.start ≡ x → HashNDegreeQuads ρ D c r.start (r.start ∷ []) r.hash r.issuer
      → IsHashPathList ρ D c (hash_first_degree_quads ρ D x) (insert_result r (sort_results others.results))
  list_with r e w = record {
    one_each =
        permutes_trans parted.1 (permutes_trans (Permutes-from_equal (λ i. sym e i ∷ sym others.starts_are i)) (Permutes-map start_of (sort_results-permutes (r ∷ others.results))));
    outcomes = λ q h. elim (In-Permutes q (Permutes-sym (sort_results-permutes (r ∷ others.results))) h) [
      | inl g ↦ subst (λ (v : HashPathResult). HashNDegreeQuads ρ D c v.start (v.start ∷ []) v.hash v.issuer) (sym g) w
      | inr g ↦ (others.behind q g).outcome
    ];
    ascending = sort_results-ascending (r ∷ others.results);
  }

  -- ---- the list that comes of results of the class

  record Ended (results : List HashPathResult) : Type 0 where
    list : List ℕ
    allowed : IsCanonicalList ρ D list
    begins : BeginsWith (issue_results c results) list

  issues_append : (hs gs : List Text) (a b d : List ℕ) → IssuesForHashes ρ D hs a b → IssuesForHashes ρ D gs b d → IssuesForHashes ρ D (hs ++ gs) a d
  issues_append [] gs a b d v w = subst (λ l. IssuesForHashes ρ D gs l d) v w
  issues_append (h ∷ hs) gs a b d v w = record { results = v.results; list = v.list; following = issues_append hs gs (issue_results a v.results) b d v.following w }

  ended : (results : List HashPathResult) → IsHashPathList ρ D c (hash_first_degree_quads ρ D x) results → Ended results
  ended results w =
      let from = issue_results c results in
      let behind = m.may_have_issued.behind in
      let end = (counted_hashes ρ D behind from).value in
      let v = counted_hashes-issue ρ D valid behind from (results-canonical ρ D (mentions_nodes D valid) c class results w canonical) in
      record {
        list = end;
        allowed = subst (λ hs. IssuesForHashes ρ D hs (issued_for_unique_hashes ρ D) end) (sym m.may_have_issued.hashes_are)
            (issues_append m.may_have_issued.before (class ∷ behind) (issued_for_unique_hashes ρ D) c end m.may_have_issued.issued (record { results = results; list = w; following = v }));
        begins = counted_hashes-begins ρ D behind from;
      }

  -- ---- the two outcomes, the one of no greater hash than the other

  module _ (r s : HashPathResult) (r_start : r.start ≡ x) (s_start : s.start ≡ x) (r_outcome : HashNDegreeQuads ρ D c r.start (r.start ∷ []) r.hash r.issuer)
      (s_outcome : HashNDegreeQuads ρ D c s.start (s.start ∷ []) s.hash s.issuer) (at_most : is_at_most r.hash s.hash ≡ true)
      (behind : (q : HashPathResult) → In q (sort_results others.results) → is_issued q.start r.issuer ≡ true → is_before q.hash s.hash ≡ false)
      (not_linked : ¬ (Linked D c [] r.issuer s.issuer)) where
    abbrev b : PutBoth r s (sort_results others.results)
    b = put_both r s at_most (sort_results others.results)

    r_component : IsComponent D quads c r.start r.issuer
    r_component = component ρ D valid c r r_outcome

    s_component : IsComponent D quads c s.start s.issuer
    s_component = component ρ D valid c s s_outcome

    r_list : IsHashPathList ρ D c (hash_first_degree_quads ρ D x) (b.lesser ++ r ∷ (b.between ++ b.others))
    r_list = subst (IsHashPathList ρ D c class) b.one (list_with r r_start r_outcome)

    s_list : IsHashPathList ρ D c (hash_first_degree_quads ρ D x) ((b.lesser ++ b.between) ++ s ∷ b.others)
    s_list = subst (IsHashPathList ρ D c class) b.other (list_with s s_start s_outcome)

    -- the results of lesser hash than the second list no node of either
    outcome_there : (q : HashPathResult) → In q (b.lesser ++ b.between) → HashNDegreeQuads ρ D c q.start (q.start ∷ []) q.hash q.issuer
    outcome_there q h = s_list.outcomes q (In-append_left (b.lesser ++ b.between) (s ∷ b.others) q h)

    component_there : (q : HashPathResult) → In q (b.lesser ++ b.between) → IsComponent D quads c q.start q.issuer
    component_there q h = component ρ D valid c q (outcome_there q h)

    apart : (q : HashPathResult) → In q (b.lesser ++ b.between) → is_issued q.start r.issuer ≡ false
    apart q h = false_from_ne_true (is_issued q.start r.issuer) (λ e.
        true≢false (sym (is_at_most-from_not_before s.hash q.hash (behind q (subst (In q) (sym b.was) (In-append_left (b.lesser ++ b.between) b.others q h)) e)) ∙ b.are_lesser q h))

    -- so the start node is new behind them
    fresh : (qs : List HashPathResult) → ((q : HashPathResult) → In q qs → In q (b.lesser ++ b.between)) → is_issued r.start (issue_results c qs) ≡ false
    fresh qs sub = false_from_ne_true (is_issued r.start (issue_results c qs)) (λ e. by (issued_issue_results_from c qs r.start e))
      where
        by : (is_issued r.start c ≡ true) ⊎ ((q : HashPathResult) × In q qs × In r.start q.issuer) → ⊥
        by (inl g) = true≢false (sym g ∙ r_component.free r.start r_component.start)
        by (inr q) =
            let k = component_there q.0 (sub q.0 q.1) in
            true≢false (sym (k.whole r.issuer r_component.closed r.start q.0.start (is_issued-from_In r.start q.0.issuer q.2) k.start r_component.start) ∙ apart q.0 (sub q.0 q.1))

    in_lesser : (q : HashPathResult) → In q b.lesser → In q (b.lesser ++ b.between)
    in_lesser q h = In-append_left b.lesser b.between q h

    in_between : (q : HashPathResult) → In q b.between → In q (b.lesser ++ b.between)
    in_between q h = In-append_right b.lesser b.between q h

    -- ---- what is issued for before both, and between them

    abbrev front : List ℕ
    front = issue_results c b.lesser

    front_base : IsBase D quads c front
    front_base = base_results D quads c b.lesser c (base_canonical ρ D valid quads c canonical) (λ q h. component_there q (in_lesser q h))

    with_r_base : IsBase D quads c (front ++ r.issuer)
    with_r_base = base-component_new D quads c front r.start r.issuer front_base r_component (fresh b.lesser in_lesser)

    added : SameAdded D quads c b.between front (front ++ r.issuer)
    added = same_added D quads c b.between front (front ++ r.issuer) front_base with_r_base (λ q h. component_there q (in_between q h))
        (λ q h. sym (is_issued-append q.start front r.issuer ∙ ap (λ t. is_issued q.start front || t) (apart q (in_between q h)) ∙ or-false (is_issued q.start front)))

    abbrev middle : List ℕ
    middle = issuers added.new

    r_end : Ended (b.lesser ++ r ∷ (b.between ++ b.others))
    r_end = ended (b.lesser ++ r ∷ (b.between ++ b.others)) r_list

    s_end : Ended ((b.lesser ++ b.between) ++ s ∷ b.others)
    s_end = ended ((b.lesser ++ b.between) ++ s ∷ b.others) s_list

    r_front : BeginsWith ((front ++ r.issuer) ++ middle) r_end.list
    r_front =
        let all = b.lesser ++ r ∷ (b.between ++ b.others) in
        let is : issue_results c all ≡ issue_results ((front ++ r.issuer) ++ middle) b.others = issue_results-append c b.lesser (r ∷ (b.between ++ b.others))
        ∙ ap (λ l. issue_results l (b.between ++ b.others)) (issue_each-component_new D quads c front r.start r.issuer front_base r_component (fresh b.lesser in_lesser))
        ∙ issue_results-append (front ++ r.issuer) b.between b.others ∙ ap (λ l. issue_results l b.others) added.added' in
        begins_trans ((front ++ r.issuer) ++ middle) (issue_results c all) r_end.list
        (subst (BeginsWith ((front ++ r.issuer) ++ middle)) (sym is) (issue_results-begins ((front ++ r.issuer) ++ middle) b.others)) r_end.begins

    s_front : BeginsWith ((front ++ middle) ++ s.issuer) s_end.list
    s_front =
        let before = b.lesser ++ b.between in
        let base = base_results D quads c before c (base_canonical ρ D valid quads c canonical) component_there in
        let new : is_issued s.start (issue_results c before) ≡ false = subst (λ z. is_issued z (issue_results c before) ≡ false) (r_start ∙ sym s_start) (fresh before (λ q h. h)) in
        let there : issue_results c before ≡ front ++ middle = issue_results-append c b.lesser b.between ∙ added.added in
        let is : issue_results c (before ++ s ∷ b.others) ≡ issue_results ((front ++ middle) ++ s.issuer) b.others = issue_results-append c before (s ∷ b.others)
        ∙ ap (λ l. issue_results l b.others) (issue_each-component_new D quads c (issue_results c before) s.start s.issuer base s_component new ∙ ap (λ l. l ++ s.issuer) there) in
        begins_trans ((front ++ middle) ++ s.issuer) (issue_results c (before ++ s ∷ b.others)) s_end.list
        (subst (BeginsWith ((front ++ middle) ++ s.issuer)) (sym is) (issue_results-begins ((front ++ middle) ++ s.issuer) b.others)) s_end.begins

    -- ---- no symmetry carries the one list to the other

    module _ (σ : Symmetry D) (e : s_end.list ≡ map σ.relabelling.to r_end.list) where
      abbrev to : ℕ → ℕ
      to = σ.relabelling.to

      parts : (front ≡ map to front) × (middle ++ (s.issuer ++ s_front.tail) ≡ map to (r.issuer ++ (middle ++ r_front.tail)))
      parts = append_split front (middle ++ (s.issuer ++ s_front.tail)) (map to front) (map to (r.issuer ++ (middle ++ r_front.tail))) (sym (length-map front to))
          (sym (append_assoc front middle (s.issuer ++ s_front.tail)) ∙ sym (append_assoc (front ++ middle) s.issuer s_front.tail) ∙ sym s_front.is ∙ e
          ∙ ap (map to) (r_front.is ∙ append_assoc (front ++ r.issuer) middle r_front.tail ∙ append_assoc front r.issuer (middle ++ r_front.tail))
          ∙ map-append to front (r.issuer ++ (middle ++ r_front.tail)))

      fixes : Keeps σ.relabelling.to c
      fixes y h = map_same_in to (λ z. z) front (sym parts.0 ∙ sym (map_identity (λ z. z) (λ z. refl) front)) y (is_issued-begins y c front (issue_results-begins c b.lesser) h)

      linked : Linked D c [] r.issuer s.issuer
      linked = linked_to_last ρ D valid c σ fixes added.new (λ q h. outcome_there q (in_between q (added.sub q h))) r s r_outcome s_outcome r_front.tail s_front.tail parts.1

    two_outputs : HasTwoOutputs ρ D
    two_outputs = record {
      first = canonical_form D r_end.list;
      second = canonical_form D s_end.list;
      first_allowed = record { list = r_end.list; allowed = r_end.allowed; text_is = refl };
      second_allowed = record { list = s_end.list; allowed = s_end.allowed; text_is = refl };
      differ = λ e.
          let l = shared_output ρ ρ D D valid valid r_end.list s_end.list r_end.allowed s_end.allowed e in
          not_linked (linked (record { relabelling = l.relabelling; keeps = l.carries }) (sym l.lists));
    }

  -- ---- either of the two may be the one of no greater hash

  abbrev first : HashPathResult
  first = record { start = x; hash = m.two.first_hash; issuer = m.two.first }

  abbrev second : HashPathResult
  second = record { start = x; hash = m.two.second_hash; issuer = m.two.second }

  in_first : (z : ℕ) → is_issued z m.two.second ≡ true → is_issued z m.two.first ≡ true
  in_first z h =
      let a = component ρ D valid c first m.two.first_outcome in
      let k = component ρ D valid c second m.two.second_outcome in
      k.whole m.two.first a.closed x z k.start h a.start

  not_back : ¬ (Linked D c [] m.two.second m.two.first)
  not_back l =
      let to = l.s.relabelling.to in
      let from = l.s.relabelling.from in
      m.two.not_carried (inverse_symmetry D l.s) (λ y h. inverse_fixes D l.s c l.canon y (is_issued-from_In y c h))
      (sym (ap (map from) l.is ∙ map_back to from (same_test to from l.s.relabelling.from-to) l.s.relabelling.from-to l.s.relabelling.to-from m.two.second))

  pub either_way : HasTwoOutputs ρ D
  either_way = by (is_at_most m.two.first_hash m.two.second_hash) refl
    where
      by : (t : Bool) → is_at_most m.two.first_hash m.two.second_hash ≡ t → HasTwoOutputs ρ D
      by true e = two_outputs first second refl refl m.two.first_outcome m.two.second_outcome e (λ q h i. ((behind_of q h).behind i).1)
          (λ l. m.two.not_carried l.s (λ y h. l.canon y (is_issued-from_In y c h)) l.is)
      by false e = two_outputs second first refl refl m.two.second_outcome m.two.first_outcome (is_at_most-other m.two.first_hash m.two.second_hash e)
          (λ q h i. ((behind_of q h).behind (in_first q.start i)).0) not_back

pub two_outcomes_give_two_outputs : TwoOutcomesGiveTwoOutputs
two_outcomes_give_two_outputs ρ D valid c start m = either_way ρ D valid c start m
