-- The outcomes of calls, and the lists that are allowed, are those of the quads with nodes.
use Rattle.std.proofs.Common.{List, [], map, refl, subst, suc, sym, zero, ℕ, ◌<◌, ◌∷◌}
use Rattle.rdf_terms.proofs.Common.{Dataset, Permutes, Permutes-from_equal, Text, permutes_trans}
use Rattle.canon_model.specs.Hashing.{Hashing}
use Rattle.canon_model.specs.Groups.{groups}
use Rattle.canon_model.specs.Issuer.{IsValidCall}
use Rattle.canon_model.specs.Walk.{CallRelation}
use Rattle.canon_model.specs.Outcome.{ChosenPath, DataToHash, HashNDegreeQuads, NDegreeWithin}
use Rattle.canon_model.specs.Allowed.{IsCanonicalList, IssuesForHashes, first_degree_hashes, issue_results, issued_for_unique_hashes}
use Rattle.canon_model.proofs.Equivariance.{chosen_path-relabel}
use Rattle.ground_parts.specs.Ground.{HaveSameQuadsWithNodes}
use Rattle.ground_parts.specs.Laws.{CanonicalListsGoByNodes, OutcomesGoByNodes}
use Rattle.ground_parts.proofs.Ground.{same_quads_with_nodes_is_equivalence}
use Rattle.ground_parts.proofs.SameHashes.{groups-same, map-identity}
use Rattle.ground_parts.proofs.SameRuns.{first_degree_hashes-same, issued_for_unique_hashes-same, unissued_nodes-same}

-- ---- calls of S give all that calls of R do

module _ (R S : CallRelation) (f : (m : ℕ) (i : List ℕ) (h : Text) (j : List ℕ) → R m i h j → S m i h j) (c : List ℕ) where
  chosen_path-more : (nodes others i : List ℕ) (path : Text) (j : List ℕ) → Permutes nodes others → ChosenPath R c nodes i path j → ChosenPath S c others i path j
  chosen_path-more nodes others i path j p w =
      subst (λ (g : List ℕ → List ℕ). ChosenPath S (g c) others (g i) path (g j)) map-identity
      (chosen_path-relabel (λ x. x) (λ x. x) (λ x y. refl) (λ x. refl) (λ x. refl) R S follows c nodes others i path j
      (subst (λ (g : List ℕ → List ℕ). Permutes (g nodes) others) (sym map-identity) p) w)
    where
      follows : (m : ℕ) (k : List ℕ) (h : Text) (l : List ℕ) → R m k h l → S m (map (λ x. x) k) h (map (λ x. x) l)
      follows m k h l r = subst (λ (g : List ℕ → List ℕ). S m (g k) h (g l)) (sym map-identity) (f m k h l r)

  data_to_hash-more : (nodes others : Text → List ℕ) → ((h : Text) → Permutes (nodes h) (others h)) → (hs : List Text) (i : List ℕ) (text : Text) (j : List ℕ)
      → DataToHash R c nodes hs i text j → DataToHash S c others hs i text j
  data_to_hash-more nodes others p [] i text j w = w
  data_to_hash-more nodes others p (h ∷ hs) i text j w = record {
    path = w.path;
    issuer = w.issuer;
    rest = w.rest;
    chosen_path = chosen_path-more (nodes h) (others h) i w.path w.issuer (p h) w.chosen_path;
    following = data_to_hash-more nodes others p hs w.issuer w.rest j w.following;
    text_is = w.text_is;
  }

module _ (ρ : Hashing) (D E : Dataset) (s : HaveSameQuadsWithNodes D E) where
  n_degree_within-more : (depth : ℕ) (c : List ℕ) (n : ℕ) (i : List ℕ) (h : Text) (j : List ℕ) → NDegreeWithin depth ρ D c n i h j → NDegreeWithin depth ρ E c n i h j
  n_degree_within-more zero c n i h j w = w
  n_degree_within-more (suc depth) c n i h j w = let g = groups-same ρ D E s c i n in record {
    text = w.text;
    data_to_hash =
        subst (λ hs. DataToHash (NDegreeWithin depth ρ E c) c (groups ρ E c i n).nodes hs i w.text j) (sym g.hashes)
        (data_to_hash-more (NDegreeWithin depth ρ D c) (NDegreeWithin depth ρ E c) (n_degree_within-more depth c) c (groups ρ D c i n).nodes (groups ρ E c i n).nodes g.nodes
        (groups ρ D c i n).hashes i w.text j w.data_to_hash);
    hash_is = w.hash_is;
  }

  valid_call-more : (c : List ℕ) (n : ℕ) (i : List ℕ) → IsValidCall D c n i → IsValidCall E c n i
  valid_call-more c n i v = record {
    canonical_nodes = λ x h. subst (λ m. x < m) (sym s.nodes) (v.canonical_nodes x h);
    temporary_nodes = λ x h. subst (λ m. x < m) (sym s.nodes) (v.temporary_nodes x h);
    canonical_once = v.canonical_once;
    temporary_once = v.temporary_once;
    apart = v.apart;
    listed = v.listed;
  }

  outcome-more : (c : List ℕ) (n : ℕ) (i : List ℕ) (h : Text) (j : List ℕ) → HashNDegreeQuads ρ D c n i h j → HashNDegreeQuads ρ E c n i h j
  outcome-more c n i h j w = record {
    valid = valid_call-more c n i w.valid;
    outcome = subst (λ m. NDegreeWithin (suc m) ρ E c n i h j) (sym s.nodes) (n_degree_within-more (suc D.nodes) c n i h j w.outcome);
  }

  -- ---- the whole

  issues_for_hashes-more : (hs : List Text) (c d : List ℕ) → IssuesForHashes ρ D hs c d → IssuesForHashes ρ E hs c d
  issues_for_hashes-more [] c d w = w
  issues_for_hashes-more (h ∷ hs) c d w = record {
    results = w.results;
    list = record {
      one_each = permutes_trans (Permutes-from_equal (unissued_nodes-same ρ D E s c h)) w.list.one_each;
      outcomes = λ r there. outcome-more c r.start (r.start ∷ []) r.hash r.issuer (w.list.outcomes r there);
      ascending = w.list.ascending;
    };
    following = issues_for_hashes-more hs (issue_results c w.results) d w.following;
  }

  canonical_list-more : (list : List ℕ) → IsCanonicalList ρ D list → IsCanonicalList ρ E list
  canonical_list-more list w =
      subst (λ hs. IssuesForHashes ρ E hs (issued_for_unique_hashes ρ E) list) (sym (first_degree_hashes-same ρ D E s))
      (subst (λ c. IssuesForHashes ρ E (first_degree_hashes ρ D) c list) (sym (issued_for_unique_hashes-same ρ D E s))
      (issues_for_hashes-more (first_degree_hashes ρ D) (issued_for_unique_hashes ρ D) list w))

pub outcomes_go_by_nodes : OutcomesGoByNodes
outcomes_go_by_nodes ρ D E s c n i h j =
    (outcome-more ρ D E s c n i h j, outcome-more ρ E D (same_quads_with_nodes_is_equivalence.symmetric D E s) c n i h j)

pub canonical_lists_go_by_nodes : CanonicalListsGoByNodes
canonical_lists_go_by_nodes ρ D E s list =
    (canonical_list-more ρ D E s list, canonical_list-more ρ E D (same_quads_with_nodes_is_equivalence.symmetric D E s) list)
