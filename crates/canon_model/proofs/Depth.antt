-- Any depth that is enough for every node gives the same outcomes and the same counted run.
use Rattle.std.proofs.Common.{List, None, Option, [], ap, arith, cond, inl, inr, refl, subst, suc, sym, true, zero, ℕ, ◌++◌, ◌<◌, ◌∙◌, ◌∷◌, ◌≡◌, ◌≤◌, ◌⊎◌}
use Rattle.rdf_terms.proofs.Common.{In-Permutes, Permutes-sym, Dataset, In, Text, arrangements, from_In-arrangements}
use Rattle.canon_model.specs.CountedRun.{Chosen, Counted, CountedCall, Outcome, after, choose, chosen_text, counted_call, counted_call_within, counted_groups, counted_permutation, counted_permutations, counted_recursion, followed_by, is_skipped, issuer_or, logged, nothing, one_unit, path_or_none, skips, ties_of_chosen}
use Rattle.canon_model.specs.Groups.{groups}
use Rattle.canon_model.specs.Issuer.{is_issued}
use Rattle.canon_model.specs.Laws.{DepthDoesNotMatter}
use Rattle.canon_model.specs.Outcome.{ChosenPath, DataToHash, NDegreeWithin}
use Rattle.canon_model.specs.Hashing.{Hashing}
use Rattle.canon_model.specs.Walk.{CallRelation, PermutationPath, RecursionResults, issuer_copy_after, path_of_identifiers, path_of_result, recursion_list}
use Rattle.canon_model.proofs.CountedGrows.{counted_call-grows}
use Rattle.canon_model.proofs.Coverage.{AllCover, Reaches, from_In-recursion_list, issuer_copy_after-issued, n_degree_within-covers, permutation_path-reaches}
use Rattle.canon_model.proofs.Issuers.{is_issued-begins, is_issued-from_In}
use Rattle.canon_model.proofs.OutcomesGrow.{AllGrow, chosen_path-grows, n_degree_within-grows}
use Rattle.canon_model.proofs.Pigeonhole.{are_once-length}
use Rattle.canon_model.proofs.Totality.{Fits, MentionsNodes, fits_after_call, fits_after_path, fits_counted_call, fits_counted_group, fits_recursion, fits_valid_call, mentions_nodes, n_degree_within-counted, nodes_of_groups}

module _ (ρ : Hashing) (D : Dataset) (c : List ℕ) (nodes : MentionsNodes D) where
  -- ---- the relation

  -- outcomes of R are outcomes of S, at lists that calls k deep are enough for
  abbrev pub IsWithin : ℕ → CallRelation → CallRelation → Type 0
  IsWithin k R S = (m : ℕ) (i : List ℕ) (h : Text) (j : List ℕ) → is_issued m i ≡ true → Fits ρ D c nodes k i → R m i h j → S m i h j

  module _ (k : ℕ) (R S : CallRelation) (cover : AllCover D c R) (grows : AllGrow c R) (more : IsWithin k R S) where
    recursion_results-more : (ms i : List ℕ) (π : Text) (j : List ℕ) → ((m : ℕ) → In m ms → Fits ρ D c nodes k i) → ((m : ℕ) → In m ms → is_issued m i ≡ true) → RecursionResults R c ms i π j
        → RecursionResults S c ms i π j
    recursion_results-more [] i π j fit there w = w
    recursion_results-more (m ∷ ms) i π j fit there w =
        let f = fit m (inl refl) in
        let hm = there m (inl refl) in
        let g = grows m i w.hash w.issuer f.distinct w.result in
        let f' = fits_after_call ρ D c nodes k m i w.issuer g (cover m i w.hash w.issuer hm w.result) f in
        record {
          hash = w.hash;
          issuer = w.issuer;
          rest = w.rest;
          result = more m i w.hash w.issuer hm f w.result;
          following = recursion_results-more ms w.issuer w.rest j (λ n h. f') (λ n h. is_issued-begins n i w.issuer g.0 (there n (inr h))) w.following;
          path_is = w.path_is;
        }

    pub permutation_path-more : (i p : List ℕ) (π : Text) (j : List ℕ) → Fits ρ D c nodes (suc k) i → ((x : ℕ) → In x p → x < D.nodes) → PermutationPath R c i p π j → PermutationPath S c i p π j
    permutation_path-more i p π j f low w = record {
      results = w.results;
      calls = recursion_results-more (recursion_list c i p) (issuer_copy_after c i p) w.results j (fits_recursion ρ D c nodes k i p f low)
          (λ m h. let q = from_In-recursion_list D c i p m h in issuer_copy_after-issued D c i p m q.0 q.1) w.calls;
      path_is = w.path_is;
    }

    pub chosen_path-more : (bg i : List ℕ) (π : Text) (j : List ℕ) → Fits ρ D c nodes (suc k) i → ((x : ℕ) → In x bg → x < D.nodes) → ChosenPath R c bg i π j → ChosenPath S c bg i π j
    chosen_path-more bg i π j f low w = record {
      paths = record {
        path = w.paths.path;
        issuer = w.paths.issuer;
        walks = λ p q. permutation_path-more i p (w.paths.path p) (w.paths.issuer p) f (λ x a. low x (In-Permutes x (Permutes-sym q) a)) (w.paths.walks p q);
      };
      chosen = w.chosen;
      is_least = w.is_least;
      path_is = w.path_is;
      issuer_is = w.issuer_is;
    }

    fits_chosen : (bg i : List ℕ) (π : Text) (j : List ℕ) → Fits ρ D c nodes (suc k) i → ((x : ℕ) → In x bg → x < D.nodes) → ChosenPath R c bg i π j → Fits ρ D c nodes (suc k) j
    fits_chosen bg i π j f low w = fits_after_path ρ D c nodes (suc k) i w.chosen j (λ x a. low x (In-Permutes x (Permutes-sym w.is_least.permutes) a))
        (chosen_path-grows c R grows bg i π j f.distinct w)
        (subst (Reaches D c i (λ y. In y w.chosen)) (sym w.issuer_is) (permutation_path-reaches D c R cover i w.chosen (w.paths.path w.chosen) (w.paths.issuer w.chosen)
        (w.paths.walks w.chosen w.is_least.permutes))) f

    pub data_to_hash-more : (b : Text → List ℕ) → ((h : Text) (x : ℕ) → In x (b h) → x < D.nodes) → (hs : List Text) (i : List ℕ) (s : Text) (j : List ℕ) → Fits ρ D c nodes (suc k) i
        → DataToHash R c b hs i s j → DataToHash S c b hs i s j
    data_to_hash-more b low [] i s j f w = w
    data_to_hash-more b low (h ∷ hs) i s j f w = record {
      path = w.path;
      issuer = w.issuer;
      rest = w.rest;
      chosen_path = chosen_path-more (b h) i w.path w.issuer f (low h) w.chosen_path;
      following = data_to_hash-more b low hs w.issuer w.rest j (fits_chosen (b h) i w.path w.issuer f (low h) w.chosen_path) w.following;
      text_is = w.text_is;
    }

  pub n_degree_within-depth : (depth k : ℕ) → IsWithin k (NDegreeWithin depth ρ D c) (NDegreeWithin k ρ D c)
  n_degree_within-depth zero k m i h j hm f w = absurd w
  n_degree_within-depth (suc depth) zero m i h j hm f w =
      let l = are_once-length D.nodes i f.distinct f.below in
      let r = f.deep in
      absurd (omega arith)
  n_degree_within-depth (suc depth) (suc k) m i h j hm f w = record {
    text = w.text;
    data_to_hash = data_to_hash-more k (NDegreeWithin depth ρ D c) (NDegreeWithin k ρ D c) (n_degree_within-covers D c ρ depth) (n_degree_within-grows c ρ D depth) (n_degree_within-depth depth k)
        (groups ρ D c i m).nodes (nodes_of_groups ρ D c nodes i m) (groups ρ D c i m).hashes i w.text j f w.data_to_hash;
    hash_is = w.hash_is;
  }

  -- ---- the counted run

  module _ (k : ℕ) (call : CountedCall) (same : (m : ℕ) (i : List ℕ) → is_issued m i ≡ true → Fits ρ D c nodes k i → counted_call_within k ρ D c m i ≡ call m i) where
    fits_next : (m : ℕ) (i : List ℕ) → is_issued m i ≡ true → Fits ρ D c nodes k i → Fits ρ D c nodes k (counted_call_within k ρ D c m i).value.issuer
    fits_next = fits_counted_call ρ D c nodes k (NDegreeWithin k ρ D c) (n_degree_within-covers D c ρ k) (n_degree_within-counted ρ D c nodes k)

    counted_recursion-same : (b : Option Text) (ms i : List ℕ) (π : Text) → ((m : ℕ) → In m ms → Fits ρ D c nodes k i) → ((m : ℕ) → In m ms → is_issued m i ≡ true)
        → counted_recursion (counted_call_within k ρ D c) b c i π ms ≡ counted_recursion call b c i π ms
    counted_recursion-same b [] i π fit there = refl
    counted_recursion-same b (m ∷ ms) i π fit there =
        let o = counted_call_within k ρ D c m i in
        let hm = there m (inl refl) in
        let f = fit m (inl refl) in
        let longer = π ++ path_of_result c i m o.value.text in
        ap (λ r. cond (skips b longer) (record { trace = o.trace; value = None }) (after o.trace r))
        (counted_recursion-same b ms o.value.issuer longer (λ n h. fits_next m i hm f) (λ n h. is_issued-begins n i o.value.issuer (counted_call-grows D c ρ k m i f.distinct).0 (there n (inr h))))
        ∙ ap (λ (q : Counted Outcome). cond (skips b (π ++ path_of_result c i m q.value.text)) (record { trace = q.trace; value = None })
        (after q.trace (counted_recursion call b c q.value.issuer (π ++ path_of_result c i m q.value.text) ms))) (same m i hm f)

    counted_permutation-same : (b : Option Text) (i p : List ℕ) → Fits ρ D c nodes (suc k) i → ((x : ℕ) → In x p → x < D.nodes)
        → counted_permutation (counted_call_within k ρ D c) b c i p ≡ counted_permutation call b c i p
    counted_permutation-same b i p f low = ap (λ (r : Counted (Option Outcome)). cond (is_skipped b c i [] p) (record { trace = nothing; value = None }) r)
        (counted_recursion-same b (recursion_list c i p) (issuer_copy_after c i p) (path_of_identifiers c i p) (fits_recursion ρ D c nodes k i p f low)
        (λ m h. let q = from_In-recursion_list D c i p m h in issuer_copy_after-issued D c i p m q.0 q.1))

    counted_permutations-same : (b : Option Chosen) (i : List ℕ) (ps : List (List ℕ)) → Fits ρ D c nodes (suc k) i → ((p : List ℕ) → In p ps → (x : ℕ) → In x p → x < D.nodes)
        → counted_permutations (counted_call_within k ρ D c) b c i ps ≡ counted_permutations call b c i ps
    counted_permutations-same b i [] f low = refl
    counted_permutations-same b i (p ∷ ps) f low =
        let t = counted_permutation (counted_call_within k ρ D c) (chosen_text b) c i p in
        ap (after (followed_by one_unit t.trace)) (counted_permutations-same (choose b t.value) i ps f (λ q h. low q (inr h)))
        ∙ ap (λ (u : Counted (Option Outcome)). after (followed_by one_unit u.trace) (counted_permutations call (choose b u.value) c i ps))
        (counted_permutation-same (chosen_text b) i p f (low p (inl refl)))

    abbrev whole : Text → List ℕ → Counted (Option Chosen) → Counted Outcome → Counted Outcome
    whole h i u r = record {
      trace = followed_by u.trace (followed_by (logged (ties_of_chosen u.value c i)) r.trace);
      value = record { text = h ++ path_or_none u.value ++ r.value.text; issuer = r.value.issuer };
    }

    pub counted_groups-same : (b : Text → List ℕ) → ((h : Text) (x : ℕ) → In x (b h) → x < D.nodes) → (hs : List Text) (i : List ℕ) → Fits ρ D c nodes (suc k) i
        → counted_groups (counted_call_within k ρ D c) c b hs i ≡ counted_groups call c b hs i
    counted_groups-same b low [] i f = refl
    counted_groups-same b low (h ∷ hs) i f =
        let t = counted_permutations (counted_call_within k ρ D c) None c i (arrangements (b h)) in
        ap (whole h i t) (counted_groups-same b low hs (issuer_or t.value i) (fits_counted_group ρ D c nodes k (NDegreeWithin k ρ D c) (n_degree_within-covers D c ρ k)
        (n_degree_within-counted ρ D c nodes k) (b h) i f (low h)))
        ∙ ap (λ (u : Counted (Option Chosen)). whole h i u (counted_groups call c b hs (issuer_or u.value i)))
        (counted_permutations-same None i (arrangements (b h)) f (λ p g x a. low h x (In-Permutes x (Permutes-sym (from_In-arrangements (b h) p g)) a)))

  pub counted_call-deeper : (k depth : ℕ) → k ≤ depth → (m : ℕ) (i : List ℕ) → is_issued m i ≡ true → Fits ρ D c nodes k i → counted_call_within k ρ D c m i ≡ counted_call_within depth ρ D c m i
  counted_call-deeper zero depth l m i hm f =
      let n = are_once-length D.nodes i f.distinct f.below in
      let r = f.deep in
      absurd (omega arith)
  counted_call-deeper (suc k) zero l m i hm f = absurd (omega arith)
  counted_call-deeper (suc k) (suc depth) l m i hm f =
      ap (λ (r : Counted Outcome). record { trace = followed_by one_unit r.trace; value = record { text = ρ.hash r.value.text; issuer = r.value.issuer } })
      (counted_groups-same k (counted_call_within depth ρ D c) (counted_call-deeper k depth (omega arith)) (groups ρ D c i m).nodes (nodes_of_groups ρ D c nodes i m) (groups ρ D c i m).hashes i f)

either_order : (a b : ℕ) → (a ≤ b) ⊎ (b ≤ a)
either_order a b = grind arith

pub depth_does_not_matter : DepthDoesNotMatter
unfolding counted_call
depth_does_not_matter ρ D c n i valid v depth deep = (
  (λ h j. (
    (λ w. record { valid = v; outcome = n_degree_within-depth ρ D c (mentions_nodes D valid) depth (suc D.nodes) n i h j hn whole w }),
    (λ w. n_degree_within-depth ρ D c (mentions_nodes D valid) (suc D.nodes) depth n i h j hn here w.outcome),
  )),
  by (either_order depth (suc D.nodes)),
)
  where
    hn : is_issued n i ≡ true
    hn = is_issued-from_In n i v.listed

    here : Fits ρ D c (mentions_nodes D valid) depth i
    here = fits_valid_call ρ D c (mentions_nodes D valid) depth n i v deep

    whole : Fits ρ D c (mentions_nodes D valid) (suc D.nodes) i
    whole = fits_valid_call ρ D c (mentions_nodes D valid) (suc D.nodes) n i v (omega arith)

    by : (depth ≤ suc D.nodes) ⊎ (suc D.nodes ≤ depth) → counted_call_within depth ρ D c n i ≡ counted_call_within (suc D.nodes) ρ D c n i
    by (inl l) = counted_call-deeper ρ D c (mentions_nodes D valid) depth (suc D.nodes) l n i hn here
    by (inr l) = sym (counted_call-deeper ρ D c (mentions_nodes D valid) (suc D.nodes) depth l n i hn whole)
