-- The counted run is one of those that are allowed.
use Rattle.std.proofs.Common.{List, [], ap, map, refl, subst, sym, ℕ, ◌∙◌, ◌∷◌}
use Rattle.rdf_terms.proofs.Common.{from_In-map, In-Permutes, Permutes-from_equal, Permutes-map, Permutes-sym, Dataset, IsValid, AreDistinct, In, Text, permutes_trans, map-map}
use Rattle.canon_model.specs.Allowed.{HashPathResult, IsHashPathList, IssuesForHashes, canonical_form, first_degree_hashes, issue_results, issued_for_unique_hashes, start_of, unissued_nodes}
use Rattle.canon_model.specs.CountedRun.{counted_hashes, counted_results, counted_run, result_of}
use Rattle.canon_model.specs.Laws.{CountedRunIsAllowed, TotalityOfDatasets}
use Rattle.canon_model.specs.Outcome.{HashNDegreeQuads}
use Rattle.canon_model.specs.Hashing.{Hashing}
use Rattle.canon_model.proofs.CanonicalLists.{AreCanonical, results-canonical, unique_hashes-canonical, valid_start}
use Rattle.canon_model.proofs.Maps.{map_identity}
use Rattle.canon_model.proofs.SortedResults.{sort_results-ascending, sort_results-permutes}
use Rattle.canon_model.proofs.StartNodes.{unissued_node}
use Rattle.canon_model.proofs.Totality.{counted_call_is_outcome, mentions_nodes}

pub AreDistinct-results : (ρ : Hashing) (D : Dataset) (c xs : List ℕ) → AreDistinct xs → AreDistinct (map (result_of ρ D c) xs)
AreDistinct-results ρ D c [] o = tt
AreDistinct-results ρ D c (x ∷ xs) o =
    ((λ h. let r = from_In-map (result_of ρ D c) xs (result_of ρ D c x) h in o.0 (subst (λ w. In w xs) (sym (ap (λ (v : HashPathResult). v.start) r.2)) r.1)), AreDistinct-results ρ D c xs o.1)

module _ (ρ : Hashing) (D : Dataset) (valid : IsValid D) where
  pub outcome_of_start : (c : List ℕ) → AreCanonical D c → (h : Text) (x : ℕ) → In x (unissued_nodes ρ D c h) → HashNDegreeQuads ρ D c x (x ∷ []) (result_of ρ D c x).hash (result_of ρ D c x).issuer
  outcome_of_start c k h x i = let s = unissued_node ρ D c h x i in counted_call_is_outcome ρ D c x (x ∷ []) valid (valid_start D c k x s.0 s.1)

  pub counted_results-list : (c : List ℕ) → AreCanonical D c → (h : Text) → IsHashPathList ρ D c h (counted_results ρ D c h)
  counted_results-list c k h = record {
    one_each =
        permutes_trans (Permutes-from_equal (sym (map-map start_of (result_of ρ D c) (unissued_nodes ρ D c h) ∙ map_identity (λ x. x) (λ x. refl) (unissued_nodes ρ D c h))))
        (Permutes-map start_of (sort_results-permutes (map (result_of ρ D c) (unissued_nodes ρ D c h))));
    outcomes = λ r i.
        let g = from_In-map (result_of ρ D c) (unissued_nodes ρ D c h) r (In-Permutes r (Permutes-sym (sort_results-permutes (map (result_of ρ D c) (unissued_nodes ρ D c h)))) i) in
        subst (λ (v : HashPathResult). HashNDegreeQuads ρ D c v.start (v.start ∷ []) v.hash v.issuer) (sym g.2) (outcome_of_start c k h g.0 g.1);
    ascending = sort_results-ascending (map (result_of ρ D c) (unissued_nodes ρ D c h));
  }

  pub counted_results-canonical : (c : List ℕ) → AreCanonical D c → (h : Text) → AreCanonical D (issue_results c (counted_results ρ D c h))
  counted_results-canonical c k h = results-canonical ρ D (mentions_nodes D valid) c h (counted_results ρ D c h) (counted_results-list c k h) k

  pub counted_hashes-issue : (hs : List Text) (c : List ℕ) → AreCanonical D c → IssuesForHashes ρ D hs c (counted_hashes ρ D hs c).value
  counted_hashes-issue [] c k = refl
  counted_hashes-issue (h ∷ hs) c k = record {
    results = counted_results ρ D c h;
    list = counted_results-list c k h;
    following = counted_hashes-issue hs (issue_results c (counted_results ρ D c h)) (counted_results-canonical c k h);
  }

pub counted_run_is_allowed : CountedRunIsAllowed
counted_run_is_allowed ρ D valid = counted_hashes-issue ρ D valid (first_degree_hashes ρ D) (issued_for_unique_hashes ρ D) (unique_hashes-canonical ρ D)

pub totality_of_datasets : TotalityOfDatasets
totality_of_datasets ρ D valid = (canonical_form D (counted_run ρ D).value, record { list = (counted_run ρ D).value; allowed = counted_run_is_allowed ρ D valid; text_is = refl })
