-- Results of the counted run whose start nodes are new when the run comes to them may be issued for first.
use Rattle.std.proofs.Common.{Bool, List, [], ap, false, inl, inr, map, refl, subst, sym, true, true≢false, ℕ, ◌++◌, ◌∙◌, ◌∷◌, ◌≡◌, ◌⊎◌}
use Rattle.rdf_terms.proofs.Common.{In-append, In-append_right, In-map, In-Permutes, is_before-irrefl, Dataset, IsValid, In, Text, is_before}
use Rattle.canon_model.specs.Allowed.{AreAscending, HashPathResult, IssuesForHashes, issue_results, issued_for_unique_hashes, unissued_nodes}
use Rattle.canon_model.specs.CountedRun.{counted_results, result_of}
use Rattle.canon_model.specs.FirstDegree.{hash_first_degree_quads}
use Rattle.canon_model.specs.Issuer.{is_issued}
use Rattle.canon_model.specs.Outcome.{HashNDegreeQuads}
use Rattle.canon_model.specs.Hashing.{Hashing}
use Rattle.canon_model.specs.Ties.{AreTiedResults}
use Rattle.canon_model.specs.TwoLists.{AreNewResults, HasOutcomeFrom, MayBeIssuedFirst, MayHaveIssued, NewResultsMayBeIssuedFirst}
use Rattle.canon_model.proofs.CanonicalLists.{AreCanonical, issues_for_hashes-canonical, unique_hashes-canonical}
use Rattle.canon_model.proofs.Components.{IsComponent}
use Rattle.canon_model.proofs.CountedAllowed.{counted_hashes-issue, outcome_of_start}
use Rattle.canon_model.proofs.IssuedLists.{issue_results-issued}
use Rattle.canon_model.proofs.Issuers.{In-from_is_issued, is_issued-from_In}
use Rattle.canon_model.proofs.LocalSymmetry.{are_quads}
use Rattle.canon_model.proofs.OutcomeComponents.{component_of_outcome}
use Rattle.canon_model.proofs.RunTies.{from_start}
use Rattle.canon_model.proofs.SortedResults.{sort_results-ascending, sort_results-permutes}
use Rattle.canon_model.proofs.StartNodes.{unissued_node}
use Rattle.canon_model.proofs.Totality.{mentions_nodes}

-- what stands behind a result has no lesser hash
ascending-behind : (ps : List HashPathResult) (r : HashPathResult) (qs : List HashPathResult) → AreAscending (ps ++ r ∷ qs) → (s : HashPathResult) → In s qs → is_before s.hash r.hash ≡ false
ascending-behind [] r qs a s h = a.0 s h
ascending-behind (p ∷ ps) r qs a s h = ascending-behind ps r qs a.1 s h

module _ (ρ : Hashing) (D : Dataset) (valid : IsValid D) (c : List ℕ) (left right : HashPathResult) (t : AreNewResults ρ D c left right) where
  may_have_issued : MayHaveIssued ρ D t.class c
  may_have_issued = record {
    before = t.before;
    behind = t.behind;
    hashes_are = t.hashes_are;
    issued =
        subst (IssuesForHashes ρ D t.before (issued_for_unique_hashes ρ D)) (sym t.canonical_is) (counted_hashes-issue ρ D valid t.before (issued_for_unique_hashes ρ D) (unique_hashes-canonical ρ D));
  }

  canonical : AreCanonical D c
  canonical = issues_for_hashes-canonical ρ D (mentions_nodes D valid) may_have_issued.before (issued_for_unique_hashes ρ D) c may_have_issued.issued (unique_hashes-canonical ρ D)

  x : (x : ℕ) × In x (unissued_nodes ρ D c t.class) × (left ≡ result_of ρ D c x)
  x = from_start ρ D valid c canonical t.class left (subst (In left) (sym t.results_are) (In-append_right t.issued (left ∷ t.others) left (inl refl)))

  y : (y : ℕ) × In y (unissued_nodes ρ D c t.class) × (right ≡ result_of ρ D c y)
  y = from_start ρ D valid c canonical t.class right (subst (In right) (sym t.results_are) (In-append_right t.issued (left ∷ t.others) right (inr t.right_there)))

  -- a result that lists one of the start nodes has not been issued for, so its hash is not lesser
  not_lesser : (z : ℕ) → In z (unissued_nodes ρ D c t.class) → (j : List ℕ) (start : ℕ) → IsComponent D (are_quads D valid) c start j → In z j → is_issued start (issue_results c t.issued) ≡ false
      → HasOutcomeFrom ρ D c left.hash z
  not_lesser z i j start p h new = record {
    own_hash = (result_of ρ D c z).hash;
    issuer = (result_of ρ D c z).issuer;
    outcome = w;
    not_before = by (is_before (result_of ρ D c z).hash left.hash) refl (In-append t.issued (left ∷ t.others) (result_of ρ D c z) (subst (In (result_of ρ D c z)) t.results_are there));
  }
    where
      w : HashNDegreeQuads ρ D c z (z ∷ []) (result_of ρ D c z).hash (result_of ρ D c z).issuer
      w = outcome_of_start ρ D valid c canonical t.class z i

      q : IsComponent D (are_quads D valid) c z (result_of ρ D c z).issuer
      q = component_of_outcome ρ D (mentions_nodes D valid) (are_quads D valid) c z (result_of ρ D c z).hash (result_of ρ D c z).issuer w

      there : In (result_of ρ D c z) (counted_results ρ D c t.class)
      there = In-Permutes (result_of ρ D c z) (sort_results-permutes (map (result_of ρ D c) (unissued_nodes ρ D c t.class))) (In-map (result_of ρ D c) (unissued_nodes ρ D c t.class) z i)

      listed : In start (result_of ρ D c z).issuer
      listed = In-from_is_issued start (result_of ρ D c z).issuer (p.whole (result_of ρ D c z).issuer q.closed z start (is_issued-from_In z j h) p.start q.start)

      ascending : AreAscending (t.issued ++ left ∷ t.others)
      ascending = subst AreAscending t.results_are (sort_results-ascending (map (result_of ρ D c) (unissued_nodes ρ D c t.class)))

      by : (s : Bool) → is_before (result_of ρ D c z).hash left.hash ≡ s → In (result_of ρ D c z) t.issued ⊎ ((result_of ρ D c z ≡ left) ⊎ In (result_of ρ D c z) t.others) → s ≡ false
      by false e k = refl
      by true e (inl k) = absurd (true≢false (sym (issue_results-issued c t.issued (result_of ρ D c z) start k listed) ∙ new))
      by true e (inr (inl k)) = sym e ∙ ap (λ (v : HashPathResult). is_before v.hash left.hash) k ∙ is_before-irrefl left.hash
      by true e (inr (inr k)) = sym e ∙ ascending-behind t.issued left t.others ascending (result_of ρ D c z) k

  tied : AreTiedResults ρ D c [] left.issuer right.issuer
  tied = record {
    none_passed = refl;
    left_start = left.start;
    right_start = right.start;
    hash = left.hash;
    same_first_degree_hash = class_of left.start x.0 x.1 (λ i. (x.2 i).start) ∙ sym (class_of right.start y.0 y.1 (λ i. (y.2 i).start));
    left_outcome = outcome left x;
    right_outcome = subst (λ h. HashNDegreeQuads ρ D c right.start (right.start ∷ []) h right.issuer) (sym t.same_hash) (outcome right y);
  }
    where
      class_of : (s z : ℕ) → In z (unissued_nodes ρ D c t.class) → s ≡ z → hash_first_degree_quads ρ D s ≡ t.class
      class_of s z i e = ap (hash_first_degree_quads ρ D) e ∙ (unissued_node ρ D c t.class z i).2

      outcome : (r : HashPathResult) → (z : ℕ) × In z (unissued_nodes ρ D c t.class) × (r ≡ result_of ρ D c z) → HashNDegreeQuads ρ D c r.start (r.start ∷ []) r.hash r.issuer
      outcome r z = subst (λ (v : HashPathResult). HashNDegreeQuads ρ D c v.start (v.start ∷ []) v.hash v.issuer) (sym z.2) (outcome_of_start ρ D valid c canonical t.class z.0 z.1)

  class_is : hash_first_degree_quads ρ D left.start ≡ t.class
  class_is = ap (hash_first_degree_quads ρ D) (λ i. (x.2 i).start) ∙ (unissued_node ρ D c t.class x.0 x.1).2

  component : (h : Text) (start : ℕ) (j : List ℕ) → HashNDegreeQuads ρ D c start (start ∷ []) h j → IsComponent D (are_quads D valid) c start j
  component h start j w = component_of_outcome ρ D (mentions_nodes D valid) (are_quads D valid) c start h j w

  may_be_issued_first : MayBeIssuedFirst ρ D c left.issuer right.issuer
  unfolding tied
  may_be_issued_first = record {
    tied = tied;
    may_have_issued = subst (λ h. MayHaveIssued ρ D h c) (sym class_is) may_have_issued;
    none_lesser = λ z i. elim [
      | inl h ↦ not_lesser z (subst (λ k. In z (unissued_nodes ρ D c k)) class_is i) left.issuer left.start (component left.hash left.start left.issuer tied.left_outcome) h t.left_new
      | inr h ↦ not_lesser z (subst (λ k. In z (unissued_nodes ρ D c k)) class_is i) right.issuer right.start (component left.hash right.start right.issuer tied.right_outcome) h t.right_new
    ];
  }

pub new_results_may_be_issued_first : NewResultsMayBeIssuedFirst
new_results_may_be_issued_first ρ D valid c left right t = may_be_issued_first ρ D valid c left right t
