-- The nodes that are alone under their hashes are different nodes; where they are all nodes, no class is left to run.
use Rattle.std.proofs.Common.{◌≡◌, ℕ, ◌<◌, ◌≤◌, true, false, cond, not, Bool, List, [], ◌∷◌, map, filter, flat_map, length, eqb, eqb-true, inl, inr, refl, sym, ap, ◌∙◌, subst, true≢false, arith}
use Rattle.std.specs.Str.{bytes_eq}
use Rattle.std.proofs.lemmas.Bool.{or_cases}
use Rattle.std.proofs.lemmas.Slice.Eq.{bytes_eq-Decides}
use Rattle.rdf_terms.proofs.Common.{Dataset, In, AreDistinct, Text, numbers_below, sorted, Ascends, Ascends-sorted, from_In-filter, from_In-flat_map, AreDistinct-append, from_In-numbers_below}
use Rattle.canon_model.specs.Allowed.{first_degree_hashes, has_first_degree_hash, has_no_canonical, issue_results, issued_for_unique_hashes, nodes_with_hash, single}
use Rattle.canon_model.specs.CountedRun.{Counted, after, counted_hashes, counted_run, followed_by, logged, nothing, result_of, sort_results, ties_of_results, trace_of_starts}
use Rattle.canon_model.specs.FirstDegree.{hash_first_degree_quads}
use Rattle.canon_model.specs.Groups.{each_text_once}
use Rattle.canon_model.specs.Hashing.{Hashing}
use Rattle.canon_model.specs.Issuer.{is_issued}
use Rattle.canon_model.proofs.CanonicalLists.{from_In-single, unique_hashes-canonical}
use Rattle.canon_model.proofs.IssueEach.{issue_each-new}
use Rattle.canon_model.proofs.Issuers.{AreOnce, are_once_from_distinct}
use Rattle.canon_model.proofs.Pigeonhole.{are_once-length}
use Rattle.canon_model.proofs.TextsOnce.{not_again}
use Rattle.canon_model.proofs.Neighbours.{from_In-each_text_once}

-- ---- each text of an ascending list once

AreDistinct-once : (xs : List Text) → Ascends xs → AreDistinct (each_text_once xs)
AreDistinct-once [] a = tt
AreDistinct-once (x ∷ []) a = ((λ h. h), tt)
AreDistinct-once (x ∷ y ∷ ys) a = by (bytes_eq x y) refl (AreDistinct-once (y ∷ ys) a.1)
  where
    by : (b : Bool) → bytes_eq x y ≡ b → AreDistinct (each_text_once (y ∷ ys)) → AreDistinct (cond b (each_text_once (y ∷ ys)) (x ∷ each_text_once (y ∷ ys)))
    by true e r = r
    by false e r = ((λ h. not_again x y ys a e (from_In-each_text_once x (y ∷ ys) h)), r)

-- ---- lists that are put behind one another

AreDistinct-flat_map : (f : Text → List ℕ) → ((h : Text) → AreDistinct (f h)) → ((h k : Text) (x : ℕ) → In x (f h) → In x (f k) → h ≡ k) → (hs : List Text) → AreDistinct hs
    → AreDistinct (flat_map f hs)
AreDistinct-flat_map f once apart [] d = tt
AreDistinct-flat_map f once apart (h ∷ hs) d =
    AreDistinct-append (f h) (flat_map f hs) (once h) (AreDistinct-flat_map f once apart hs d.1)
    (λ x i j. let g = from_In-flat_map f x hs j in d.0 (subst (λ w. In w hs) (sym (apart h g.0 x i g.2)) g.1))

AreDistinct-single : (xs : List ℕ) → AreDistinct (single xs)
AreDistinct-single [] = tt
AreDistinct-single (x ∷ []) = ((λ h. h), tt)
AreDistinct-single (x ∷ y ∷ xs) = tt

module _ (ρ : Hashing) (D : Dataset) where
  -- ---- the nodes that are alone

  its_hash : (h : Text) (x : ℕ) → In x (single (nodes_with_hash ρ D h)) → hash_first_degree_quads ρ D x ≡ h
  its_hash h x i = (bytes_eq-Decides (hash_first_degree_quads ρ D x) h).0 (from_In-filter (has_first_degree_hash ρ D h) x (numbers_below D.nodes) (from_In-single (nodes_with_hash ρ D h) x i)).1

  alone-once : AreOnce (flat_map (λ h. single (nodes_with_hash ρ D h)) (first_degree_hashes ρ D))
  alone-once =
      are_once_from_distinct (flat_map (λ h. single (nodes_with_hash ρ D h)) (first_degree_hashes ρ D))
      (AreDistinct-flat_map (λ h. single (nodes_with_hash ρ D h)) (λ h. AreDistinct-single (nodes_with_hash ρ D h)) (λ h k x i j. sym (its_hash h x i) ∙ its_hash k x j) (first_degree_hashes ρ D)
      (AreDistinct-once (sorted (map (hash_first_degree_quads ρ D) (numbers_below D.nodes))) (Ascends-sorted (map (hash_first_degree_quads ρ D) (numbers_below D.nodes)))))

  pub alone-issued : issued_for_unique_hashes ρ D ≡ flat_map (λ h. single (nodes_with_hash ρ D h)) (first_degree_hashes ρ D)
  alone-issued = issue_each-new [] (flat_map (λ h. single (nodes_with_hash ρ D h)) (first_degree_hashes ρ D)) alone-once (λ x h. refl)

  -- ---- where they are all nodes

  none_unissued : (c : List ℕ) → ((x : ℕ) → x < D.nodes → is_issued x c ≡ true) → (xs : List ℕ) → ((x : ℕ) → In x xs → x < D.nodes) → filter (has_no_canonical c) xs ≡ []
  none_unissued c all [] low = refl
  none_unissued c all (x ∷ xs) low = by (is_issued x c) (all x (low x (inl refl))) (none_unissued c all xs (λ y h. low y (inr h)))
    where
      by : (t : Bool) → t ≡ true → filter (has_no_canonical c) xs ≡ [] → cond (not t) (x ∷ filter (has_no_canonical c) xs) (filter (has_no_canonical c) xs) ≡ []
      by true e r = r
      by false e r = absurd (true≢false (sym e))

  pub all_issued : (c : List ℕ) → ((x : ℕ) → x < D.nodes → is_issued x c ≡ true) → (hs : List Text) → counted_hashes ρ D hs c ≡ record { trace = nothing; value = c }
  all_issued c all [] = refl
  all_issued c all (h ∷ hs) =
      ap (step hs c) (none_unissued c all (nodes_with_hash ρ D h) (λ x i. from_In-numbers_below D.nodes x (from_In-filter (has_first_degree_hash ρ D h) x (numbers_below D.nodes) i).0))
      ∙ ap (λ (o : Counted (List ℕ)). after (followed_by nothing (logged [])) o) (all_issued c all hs)
    where
      step : List Text → List ℕ → List ℕ → Counted (List ℕ)
      step hs c ns =
          let results = sort_results (map (result_of ρ D c) ns) in
          after (followed_by (trace_of_starts ρ D c ns) (logged (ties_of_results c results))) (counted_hashes ρ D hs (issue_results c results))

  all_there : (c : List ℕ) → AreOnce c → ((x : ℕ) → is_issued x c ≡ true → x < D.nodes) → length c ≡ D.nodes → (x : ℕ) → x < D.nodes → is_issued x c ≡ true
  all_there c once low e x l = by (is_issued x c) refl
    where
      below : (y : ℕ) → is_issued y (x ∷ c) ≡ true → y < D.nodes
      below y h = elim (or_cases (eqb x y) (is_issued y c) h) [ inl a ↦ subst (λ w. w < D.nodes) (eqb-true x y a) l | inr b ↦ low y b ]

      by : (t : Bool) → is_issued x c ≡ t → t ≡ true
      by true f = refl
      by false f = let m : length (x ∷ c) ≤ D.nodes = are_once-length D.nodes (x ∷ c) (f, once) below in absurd (omega arith)

  -- the run ends with the nodes that are alone
  pub run-alone : (nodes : List ℕ) → nodes ≡ flat_map (λ h. single (nodes_with_hash ρ D h)) (first_degree_hashes ρ D) → length nodes ≡ D.nodes
      → counted_run ρ D ≡ record { trace = nothing; value = nodes }
  run-alone nodes is long =
      let issued : issued_for_unique_hashes ρ D ≡ nodes = alone-issued ∙ sym is in
      let k = unique_hashes-canonical ρ D in
      all_issued (issued_for_unique_hashes ρ D) (all_there (issued_for_unique_hashes ρ D) k.once k.below (ap length issued ∙ long)) (first_degree_hashes ρ D)
      ∙ ap (λ (c : List ℕ). record { trace = nothing; value = c }) issued

  pub alone-below : (x : ℕ) → In x (flat_map (λ h. single (nodes_with_hash ρ D h)) (first_degree_hashes ρ D)) → x < D.nodes
  alone-below x i =
      let r = from_In-flat_map (λ h. single (nodes_with_hash ρ D h)) x (first_degree_hashes ρ D) i in
      from_In-numbers_below D.nodes x (from_In-filter (has_first_degree_hash ρ D r.0) x (numbers_below D.nodes) (from_In-single (nodes_with_hash ρ D r.0) x r.2)).0
