-- The counted run of a dataset is that of its quads with nodes.
use Rattle.std.proofs.Common.{List, None, [], ap, filter, flat_map, map, refl, suc, sym, zero, ℕ, ◌++◌, ◌∙◌, ◌∷◌, ◌≡◌}
use Rattle.std.specs.Str.{bytes_eq}
use Rattle.rdf_terms.proofs.Common.{Dataset, Permutes, Permutes-sym, Text, arrangements, numbers_below, permutes_trans, sorted}
use Rattle.canon_model.specs.Hashing.{Hashing}
use Rattle.canon_model.specs.Groups.{each_text_once, groups}
use Rattle.canon_model.specs.Issuer.{issue_each}
use Rattle.canon_model.specs.Allowed.{first_degree_hashes, has_no_canonical, issue_results, issued_for_unique_hashes, nodes_with_hash, single, unissued_nodes}
use Rattle.canon_model.specs.CountedRun.{Counted, CountedCall, Outcome, after, counted_call, counted_call_within, counted_groups, counted_hashes, counted_permutations, counted_results, counted_run, followed_by, issuer_or, logged, one_unit, path_or_none, result_of, sort_results, ties_of_chosen, ties_of_results, trace_of_starts}
use Rattle.canon_model.proofs.StrictlyAscending.{arrangements_are_all}
use Rattle.ground_parts.specs.Ground.{HaveSameQuadsWithNodes}
use Rattle.ground_parts.specs.Laws.{CountedCallsGoByNodes, CountedRunsGoByNodes}
use Rattle.ground_parts.proofs.SameHashes.{first_degree-same, groups-same}

-- ---- one call

arrangements-same : {xs ys : List ℕ} → Permutes xs ys → arrangements ys ≡ arrangements xs
arrangements-same {xs} {ys} p =
    sym ((arrangements_are_all ys).unique (arrangements xs) (arrangements_are_all xs).ascending
    (λ q. ((λ h. permutes_trans (Permutes-sym p) (((arrangements_are_all xs).all q).0 h)), (λ h. ((arrangements_are_all xs).all q).1 (permutes_trans p h)))))

counted_groups-same : (call : CountedCall) (c : List ℕ) (nodes others : Text → List ℕ) → ((h : Text) → Permutes (nodes h) (others h)) → (hs : List Text) (i : List ℕ)
    → counted_groups call c others hs i ≡ counted_groups call c nodes hs i
counted_groups-same call c nodes others p [] i = refl
counted_groups-same call c nodes others p (h ∷ hs) i =
    ap (λ ps. built others ps) (arrangements-same (p h)) ∙ ap (λ run. put run (arrangements (nodes h))) (counted_groups-same call c nodes others p hs
    (issuer_or (counted_permutations call None c i (arrangements (nodes h))).value i))
  where
    put : Counted Outcome → List (List ℕ) → Counted Outcome
    put rest ps =
        let tried = counted_permutations call None c i ps in
        record {
          trace = followed_by tried.trace (followed_by (logged (ties_of_chosen tried.value c i)) rest.trace);
          value = record { text = h ++ path_or_none tried.value ++ rest.value.text; issuer = rest.value.issuer };
        }

    built : (Text → List ℕ) → List (List ℕ) → Counted Outcome
    built of ps = put (counted_groups call c of hs (issuer_or (counted_permutations call None c i ps).value i)) ps

module _ (ρ : Hashing) (D E : Dataset) (s : HaveSameQuadsWithNodes D E) where
  counted_call_within-same : (depth : ℕ) (c : List ℕ) → counted_call_within depth ρ E c ≡ counted_call_within depth ρ D c
  counted_call_within-same zero c = refl
  counted_call_within-same (suc depth) c = λ k n i. made (runs (counted_call_within-same depth c) n i k)
    where
      runs : counted_call_within depth ρ E c ≡ counted_call_within depth ρ D c → (n : ℕ) (i : List ℕ)
          → counted_groups (counted_call_within depth ρ E c) c (groups ρ E c i n).nodes (groups ρ E c i n).hashes i ≡ counted_groups (counted_call_within depth ρ D c) c (groups ρ D c i n).nodes
          (groups ρ D c i n).hashes i
      runs e n i =
          let g = groups-same ρ D E s c i n in
          ap (λ call. counted_groups call c (groups ρ E c i n).nodes (groups ρ E c i n).hashes i) e
          ∙ (ap (λ hs. counted_groups (counted_call_within depth ρ D c) c (groups ρ E c i n).nodes hs i) g.hashes
          ∙ counted_groups-same (counted_call_within depth ρ D c) c (groups ρ D c i n).nodes (groups ρ E c i n).nodes g.nodes (groups ρ D c i n).hashes i)

      made : Counted Outcome → Counted Outcome
      made run = record { trace = followed_by one_unit run.trace; value = record { text = ρ.hash run.value.text; issuer = run.value.issuer } }

  counted_call-same : counted_call ρ E ≡ counted_call ρ D
  unfolding counted_call
  counted_call-same = λ k c. (counted_call_within-same (suc E.nodes) c ∙ ap (λ m. counted_call_within (suc m) ρ D c) s.nodes) k

  -- ---- the whole

  pub first_degree_hashes-same : first_degree_hashes ρ E ≡ first_degree_hashes ρ D
  first_degree_hashes-same = λ k. each_text_once (sorted (map (λ n. first_degree-same ρ D E s n k) (numbers_below (s.nodes k))))

  nodes_with_hash-same : (h : Text) → nodes_with_hash ρ E h ≡ nodes_with_hash ρ D h
  nodes_with_hash-same h = λ k. filter (λ n. bytes_eq (first_degree-same ρ D E s n k) h) (numbers_below (s.nodes k))

  pub issued_for_unique_hashes-same : issued_for_unique_hashes ρ E ≡ issued_for_unique_hashes ρ D
  issued_for_unique_hashes-same = λ k. issue_each [] (flat_map (λ h. single (nodes_with_hash-same h k)) (first_degree_hashes-same k))

  pub unissued_nodes-same : (c : List ℕ) (h : Text) → unissued_nodes ρ E c h ≡ unissued_nodes ρ D c h
  unissued_nodes-same c h = ap (filter (has_no_canonical c)) (nodes_with_hash-same h)

  result-same : (c : List ℕ) → result_of ρ E c ≡ result_of ρ D c
  result-same c = λ k n. record { start = n; hash = (counted_call-same k c n (n ∷ [])).value.text; issuer = (counted_call-same k c n (n ∷ [])).value.issuer }

  counted_results-same : (c : List ℕ) (h : Text) → counted_results ρ E c h ≡ counted_results ρ D c h
  counted_results-same c h = λ k. sort_results (map (result-same c k) (unissued_nodes-same c h k))

  starts-same : (c ns : List ℕ) → trace_of_starts ρ E c ns ≡ trace_of_starts ρ D c ns
  starts-same c [] = refl
  starts-same c (n ∷ ns) = λ k. followed_by (counted_call-same k c n (n ∷ [])).trace (starts-same c ns k)

  hash_trace-same : (c : List ℕ) (h : Text) → trace_of_starts ρ E c (unissued_nodes ρ E c h) ≡ trace_of_starts ρ D c (unissued_nodes ρ D c h)
  hash_trace-same c h = λ k. starts-same c (unissued_nodes-same c h k) k

  counted_hashes-same : (hs : List Text) → counted_hashes ρ E hs ≡ counted_hashes ρ D hs
  counted_hashes-same [] = refl
  counted_hashes-same (h ∷ hs) =
      λ k c. after (followed_by (hash_trace-same c h k) (logged (ties_of_results c (counted_results-same c h k))))
      (counted_hashes-same hs k (issue_results c (counted_results-same c h k)))

  counted_run-same : counted_run ρ E ≡ counted_run ρ D
  counted_run-same = λ k. counted_hashes-same (first_degree_hashes-same k) k (issued_for_unique_hashes-same k)

pub counted_calls_go_by_nodes : CountedCallsGoByNodes
counted_calls_go_by_nodes ρ D E s c n i = λ k. counted_call-same ρ D E s k c n i

pub counted_runs_go_by_nodes : CountedRunsGoByNodes
counted_runs_go_by_nodes ρ D E s = counted_run-same ρ D E s
