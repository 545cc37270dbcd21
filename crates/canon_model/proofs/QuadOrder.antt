-- The counted run does not see the order of the quads.
use Rattle.canon_model.proofs.Maps.{map_identity}
use Rattle.canon_model.proofs.Symmetries.{relabel_statement-identity}
use Rattle.std.proofs.Common.{List, flat_map, None, [], ap, filter, map, map-id, refl, subst, suc, sym, zero, ℕ, ◌++◌, ◌∙◌, ◌∷◌, ◌≡◌}
use Rattle.rdf_terms.proofs.Common.{Permutes-from_equal, Permutes-sym, Dataset, Carries, relabel_statement, Permutes, Text, numbers_below, permutes_trans, sorted, arrangements}
use Rattle.std.specs.Str.{bytes_eq}
use Rattle.canon_model.specs.Allowed.{HashPathResult, first_degree_hashes, has_no_canonical, issue_results, issued_for_unique_hashes, nodes_with_hash, single, unissued_nodes}
use Rattle.canon_model.specs.CountedRun.{Counted, CountedCall, Outcome, Trace, after, counted_call, counted_call_within, counted_groups, counted_hashes, counted_permutations, counted_results, counted_run, followed_by, issuer_or, logged, one_unit, path_or_none, result_of, sort_results, ties_of_chosen, ties_of_results, trace_of_starts}
use Rattle.canon_model.specs.FirstDegree.{hash_first_degree_quads}
use Rattle.canon_model.specs.Groups.{blank_node_list, each_text_once, groups, related_entries}
use Rattle.canon_model.specs.Issuer.{issue_each}
use Rattle.canon_model.specs.Hashing.{Hashing}
use Rattle.canon_model.specs.QuadOrder.{CountedRunOfQuads, HaveSameQuads}
use Rattle.canon_model.proofs.Relabel.{hash_first_degree_quads-relabel, related_entries-relabel, relabel_entry}
use Rattle.canon_model.proofs.RelabelGroups.{blank_node_list-relabel, related_hashes-relabel}
use Rattle.canon_model.proofs.StrictlyAscending.{arrangements_are_all}

-- ---- the identity as a relabelling

same : ℕ → ℕ
same = λ x. x

carries : (D E : Dataset) → HaveSameQuads D E → Carries (λ x. x) D E
carries D E s = record { nodes = s.nodes; statements = permutes_trans (Permutes-from_equal (map_identity (relabel_statement (λ x. x)) relabel_statement-identity D.statements)) s.statements }

-- ---- arrangements

arrangements-same : {xs ys : List ℕ} → Permutes xs ys → arrangements ys ≡ arrangements xs
arrangements-same {xs} {ys} p =
    sym ((arrangements_are_all ys).unique (arrangements xs) (arrangements_are_all xs).ascending
    (λ q. ((λ h. permutes_trans (Permutes-sym p) (((arrangements_are_all xs).all q).0 h)), (λ h. ((arrangements_are_all xs).all q).1 (permutes_trans p h)))))

-- ---- one call

module _ (ρ : Hashing) (D E : Dataset) (s : HaveSameQuads D E) where
  first_degree-same : hash_first_degree_quads ρ E ≡ hash_first_degree_quads ρ D
  first_degree-same = λ k n. hash_first_degree_quads-relabel (λ x. x) (λ x y. refl) ρ (carries D E s) n k

  entries-same : (c i : List ℕ) (n : ℕ) → Permutes (map (relabel_entry (λ x. x)) (related_entries ρ D c i n)) (related_entries ρ E c i n)
  entries-same c i n =
      subst (λ v. Permutes (map (relabel_entry (λ x. x)) (related_entries ρ D c i n)) (related_entries ρ E v i n)) (map-id c)
      (subst (λ v. Permutes (map (relabel_entry (λ x. x)) (related_entries ρ D c i n)) (related_entries ρ E (map (λ x. x) c) v n)) (map-id i)
      (related_entries-relabel (λ x. x) (λ x y. refl) ρ (carries D E s) c i n))

  hashes-same : (c i : List ℕ) (n : ℕ) → (groups ρ E c i n).hashes ≡ (groups ρ D c i n).hashes
  hashes-same c i n = related_hashes-relabel (λ x. x) (λ x y. refl) (related_entries ρ D c i n) (related_entries ρ E c i n) (entries-same c i n)

  nodes-same : (c i : List ℕ) (n : ℕ) (h : Text) → arrangements ((groups ρ E c i n).nodes h) ≡ arrangements ((groups ρ D c i n).nodes h)
  nodes-same c i n h =
      arrangements-same (subst (λ v. Permutes v (blank_node_list ρ (related_entries ρ E c i n) h)) (map-id (blank_node_list ρ (related_entries ρ D c i n) h))
      (blank_node_list-relabel (λ x. x) (λ x y. refl) ρ (related_entries ρ D c i n) (related_entries ρ E c i n) (entries-same c i n) h))

  counted_groups-same : (call : CountedCall) (c : List ℕ) (nodes others : Text → List ℕ) → ((h : Text) → arrangements (others h) ≡ arrangements (nodes h)) → (hs : List Text) (i : List ℕ)
      → counted_groups call c others hs i ≡ counted_groups call c nodes hs i
  counted_groups-same call c nodes others p [] i = refl
  counted_groups-same call c nodes others p (h ∷ hs) i =
      ap (λ ps. built others ps) (p h) ∙ ap (λ run. put run (arrangements (nodes h))) (counted_groups-same call c nodes others p hs
      (issuer_or (counted_permutations call None c i (arrangements (nodes h))).value i))
    where
      put : Counted Outcome → List (List ℕ) → Counted Outcome
      put rest ps =
          let tried = counted_permutations call None c i ps in
          record {
            trace = followed_by tried.trace (followed_by (logged (ties_of_chosen tried.value c i)) rest.trace);
            value = record { text = h ++ path_or_none tried.value ++ rest.value.text; issuer = rest.value.issuer };
          }

      built : (Text → List ℕ) → List (List ℕ) → Counted Outcome
      built of ps = put (counted_groups call c of hs (issuer_or (counted_permutations call None c i ps).value i)) ps

  counted_call_within-same : (depth : ℕ) (c : List ℕ) → counted_call_within depth ρ E c ≡ counted_call_within depth ρ D c
  counted_call_within-same zero c = refl
  counted_call_within-same (suc depth) c = λ k n i. made (runs (counted_call_within-same depth c) n i k)
    where
      runs : counted_call_within depth ρ E c ≡ counted_call_within depth ρ D c → (n : ℕ) (i : List ℕ)
          → counted_groups (counted_call_within depth ρ E c) c (groups ρ E c i n).nodes (groups ρ E c i n).hashes i ≡ counted_groups (counted_call_within depth ρ D c) c (groups ρ D c i n).nodes
          (groups ρ D c i n).hashes i
      runs e n i = ap (λ call. counted_groups call c (groups ρ E c i n).nodes (groups ρ E c i n).hashes i) e
          ∙ (ap (λ hs. counted_groups (counted_call_within depth ρ D c) c (groups ρ E c i n).nodes hs i) (hashes-same c i n)
          ∙ counted_groups-same (counted_call_within depth ρ D c) c (groups ρ D c i n).nodes (groups ρ E c i n).nodes (nodes-same c i n) (groups ρ D c i n).hashes i)

      made : Counted Outcome → Counted Outcome
      made run = record { trace = followed_by one_unit run.trace; value = record { text = ρ.hash run.value.text; issuer = run.value.issuer } }

  counted_call-same : counted_call ρ E ≡ counted_call ρ D
  unfolding counted_call
  counted_call-same = λ k c. calls c k
    where
      calls : (c : List ℕ) → counted_call_within (suc E.nodes) ρ E c ≡ counted_call_within (suc D.nodes) ρ D c
      calls c = counted_call_within-same (suc E.nodes) c ∙ ap (λ m. counted_call_within (suc m) ρ D c) s.nodes

  -- ---- the whole

  first_degree_hashes-same : first_degree_hashes ρ E ≡ first_degree_hashes ρ D
  first_degree_hashes-same = ap (λ f. ordered f E.nodes) first_degree-same ∙ ap (λ m. ordered (hash_first_degree_quads ρ D) m) s.nodes
    where
      ordered : (ℕ → Text) → ℕ → List Text
      ordered f m = each_text_once (sorted (map f (numbers_below m)))

  nodes_with_hash-same : (h : Text) → nodes_with_hash ρ E h ≡ nodes_with_hash ρ D h
  nodes_with_hash-same h = ap (λ f. under f E.nodes) first_degree-same ∙ ap (λ m. under (hash_first_degree_quads ρ D) m) s.nodes
    where
      under : (ℕ → Text) → ℕ → List ℕ
      under f m = filter (λ n. bytes_eq (f n) h) (numbers_below m)

  issued_for_unique_hashes-same : issued_for_unique_hashes ρ E ≡ issued_for_unique_hashes ρ D
  issued_for_unique_hashes-same = ap (λ hs. issued (nodes_with_hash ρ E) hs) first_degree_hashes-same ∙ ap (λ f. issued f (first_degree_hashes ρ D)) (λ k h. nodes_with_hash-same h k)
    where
      issued : (Text → List ℕ) → List Text → List ℕ
      issued f hs = issue_each [] (flat_map (λ h. single (f h)) hs)

  unissued-same : (c : List ℕ) (h : Text) → unissued_nodes ρ E c h ≡ unissued_nodes ρ D c h
  unissued-same c h = ap (filter (has_no_canonical c)) (nodes_with_hash-same h)

  result-same : (c : List ℕ) → result_of ρ E c ≡ result_of ρ D c
  result-same c = λ k n. record { start = n; hash = (counted_call-same k c n (n ∷ [])).value.text; issuer = (counted_call-same k c n (n ∷ [])).value.issuer }

  results-same : (c : List ℕ) (h : Text) → counted_results ρ E c h ≡ counted_results ρ D c h
  results-same c h = ap (λ f. sort_results (map f (unissued_nodes ρ E c h))) (result-same c) ∙ ap (λ ns. sort_results (map (result_of ρ D c) ns)) (unissued-same c h)

  starts-same : (c ns : List ℕ) → trace_of_starts ρ E c ns ≡ trace_of_starts ρ D c ns
  starts-same c [] = refl
  starts-same c (n ∷ ns) = λ k. followed_by (counted_call-same k c n (n ∷ [])).trace (starts-same c ns k)

  hash_trace-same : (c : List ℕ) (h : Text) → trace_of_starts ρ E c (unissued_nodes ρ E c h) ≡ trace_of_starts ρ D c (unissued_nodes ρ D c h)
  hash_trace-same c h = starts-same c (unissued_nodes ρ E c h) ∙ ap (trace_of_starts ρ D c) (unissued-same c h)

  counted_hashes-same : (hs : List Text) (c : List ℕ) → counted_hashes ρ E hs c ≡ counted_hashes ρ D hs c
  counted_hashes-same [] c = refl
  counted_hashes-same (h ∷ hs) c = ap (λ t. made t (counted_results ρ E c h) (counted_hashes ρ E hs)) (hash_trace-same c h)
      ∙ (ap (λ r. made (trace_of_starts ρ D c (unissued_nodes ρ D c h)) r (counted_hashes ρ E hs)) (results-same c h)
      ∙ ap (λ f. made (trace_of_starts ρ D c (unissued_nodes ρ D c h)) (counted_results ρ D c h) f) (λ k d. counted_hashes-same hs d k))
    where
      made : Trace → List HashPathResult → (List ℕ → Counted (List ℕ)) → Counted (List ℕ)
      made starts results rest = after (followed_by starts (logged (ties_of_results c results))) (rest (issue_results c results))

  counted_run-same : counted_run ρ E ≡ counted_run ρ D
  counted_run-same = ap (λ hs. counted_hashes ρ E hs (issued_for_unique_hashes ρ E)) first_degree_hashes-same
      ∙ (ap (counted_hashes ρ E (first_degree_hashes ρ D)) issued_for_unique_hashes-same
      ∙ counted_hashes-same (first_degree_hashes ρ D) (issued_for_unique_hashes ρ D))

pub counted_run_of_quads : CountedRunOfQuads
counted_run_of_quads ρ D E s = counted_run-same ρ D E s
