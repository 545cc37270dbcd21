-- Each tie that the counted run of a call logs is tied, and its exchange may be checked.
use Rattle.std.proofs.Common.{Bool, List, None, Option, Some, [], ap, append_assoc, arith, cond, false, inl, inr, refl, subst, suc, sym, true, true≢false, zero, ℕ, ◌++◌, ◌<◌, ◌∙◌, ◌∷◌, ◌≡◌, ◌⊎◌}
use Rattle.rdf_terms.proofs.Common.{In-append, from_In-map, In-Permutes, Permutes-sym, Dataset, In, Permutes, Text, is_before, arrangements, In-arrangements, from_In-arrangements}
use Rattle.canon_model.specs.CountedRun.{Chosen, Counted, Outcome, Tie, choose, chosen_text, counted_call, counted_call_within, counted_groups, counted_permutation, counted_permutations, counted_recursion, is_skipped, issuer_or, path_or_none, skips, ties_of_chosen}
use Rattle.canon_model.specs.Groups.{groups}
use Rattle.canon_model.specs.Issuer.{IsValidCall, is_issued}
use Rattle.canon_model.specs.Laws.{TiesOfCallAreTied}
use Rattle.canon_model.specs.Outcome.{DataToHash, HashNDegreeQuads}
use Rattle.canon_model.specs.Hashing.{Hashing}
use Rattle.canon_model.specs.Ties.{AreTiedPaths, IsTie, MayBeBegun, MayBeExchanged}
use Rattle.canon_model.specs.Walk.{PermutationPath, issuer_copy_after, path_of_identifiers, path_of_result, recursion_list}
use Rattle.canon_model.proofs.CanonicalLists.{AreCanonical}
use Rattle.canon_model.proofs.CountedGrows.{counted_call-grows, counted_permutations-grows}
use Rattle.canon_model.proofs.CountedPaths.{Either, Kept, counted_permutations-kept, full_path, issuer_of, none_kept, path_of}
use Rattle.canon_model.proofs.Coverage.{from_In-recursion_list, hash_n_degree_quads-covers, issuer_copy_after-issued}
use Rattle.canon_model.proofs.Depth.{n_degree_within-depth}
use Rattle.canon_model.proofs.Issuers.{In-from_is_issued, are_distinct_from_once, are_once_from_distinct, begins_refl, is_issued-begins, is_issued-from_In, not_In-from_is_issued}
use Rattle.canon_model.proofs.OutcomesGrow.{data_to_hash-push}
use Rattle.canon_model.proofs.TiedLists.{permutations-exchanged}
use Rattle.canon_model.proofs.Totality.{Fits, MentionsNodes, fits_counted_call, fits_counted_group, fits_recursion, fits_valid_call, group-counted, mentions_nodes, n_degree_within-counted, nodes_of_groups, permutation_path-counted}

abbrev pub AreTies : Hashing → Dataset → List Tie → Type 0
AreTies ρ D ts = (t : Tie) → In t ts → IsTie ρ D t

pub are_ties-none : (ρ : Hashing) (D : Dataset) → AreTies ρ D []
are_ties-none ρ D t h = absurd h

pub are_ties-append : (ρ : Hashing) (D : Dataset) (ts us : List Tie) → AreTies ρ D ts → AreTies ρ D us → AreTies ρ D (ts ++ us)
are_ties-append ρ D ts us a b t h = elim (In-append ts us t h) [ inl g ↦ a t g | inr g ↦ b t g ]

are_ties_cond : (ρ : Hashing) (D : Dataset) (s : Bool) (t u : Counted (Option Outcome)) → AreTies ρ D t.trace.ties → AreTies ρ D u.trace.ties → AreTies ρ D (cond s t u).trace.ties
are_ties_cond ρ D true t u a b = a
are_ties_cond ρ D false t u a b = b

module _ (ρ : Hashing) (D : Dataset) (c : List ℕ) (nodes : MentionsNodes D) (canonical : AreCanonical D c) where
  pub valid_call : (k n : ℕ) (i : List ℕ) → is_issued n i ≡ true → Fits ρ D c nodes k i → IsValidCall D c n i
  valid_call k n i hn f = record {
    canonical_nodes = λ x h. canonical.below x (is_issued-from_In x c h);
    temporary_nodes = λ x h. f.below x (is_issued-from_In x i h);
    canonical_once = are_distinct_from_once c canonical.once;
    temporary_once = are_distinct_from_once i f.distinct;
    apart = λ x h g. not_In-from_is_issued x c (f.apart x (is_issued-from_In x i g)) h;
    listed = In-from_is_issued n i hn;
  }

  pub outcome-counted : (k m : ℕ) (i : List ℕ) → is_issued m i ≡ true → Fits ρ D c nodes k i
      → HashNDegreeQuads ρ D c m i (counted_call_within k ρ D c m i).value.text (counted_call_within k ρ D c m i).value.issuer
  outcome-counted k m i hm f = record {
    valid = valid_call k m i hm f;
    outcome =
        n_degree_within-depth ρ D c nodes k (suc D.nodes) m i _ _ hm (record { distinct = f.distinct; below = f.below; apart = f.apart; deep = omega arith })
        (n_degree_within-counted ρ D c nodes k m i hm f);
  }

  module _ (k : ℕ) (ties : (m : ℕ) (i : List ℕ) → is_issued m i ≡ true → Fits ρ D c nodes k i → AreTies ρ D (counted_call_within k ρ D c m i).trace.ties) where
    fits_next : (m : ℕ) (i : List ℕ) → is_issued m i ≡ true → Fits ρ D c nodes k i → Fits ρ D c nodes k (counted_call_within k ρ D c m i).value.issuer
    fits_next = fits_counted_call ρ D c nodes k (HashNDegreeQuads ρ D c) (hash_n_degree_quads-covers D c ρ) (outcome-counted k)

    recursion-ties : (b : Option Text) (ms i : List ℕ) (π : Text) → ((m : ℕ) → In m ms → Fits ρ D c nodes k i) → ((m : ℕ) → In m ms → is_issued m i ≡ true)
        → AreTies ρ D (counted_recursion (counted_call_within k ρ D c) b c i π ms).trace.ties
    recursion-ties b [] i π fit there = are_ties-none ρ D
    recursion-ties b (m ∷ ms) i π fit there =
        let f = fit m (inl refl) in
        let hm = there m (inl refl) in
        let o = counted_call_within k ρ D c m i in
        let g = counted_call-grows D c ρ k m i f.distinct in
        let longer = π ++ path_of_result c i m o.value.text in
        are_ties_cond ρ D (skips b longer) _ _ (ties m i hm f)
        (are_ties-append ρ D o.trace.ties _ (ties m i hm f) (recursion-ties b ms o.value.issuer longer (λ n h. fits_next m i hm f) (λ n h. is_issued-begins n i o.value.issuer g.0 (there n (inr h)))))

    permutation-ties : (b : Option Text) (i p : List ℕ) → Fits ρ D c nodes (suc k) i → ((x : ℕ) → In x p → x < D.nodes)
        → AreTies ρ D (counted_permutation (counted_call_within k ρ D c) b c i p).trace.ties
    permutation-ties b i p f low = are_ties_cond ρ D (is_skipped b c i [] p) _ _ (are_ties-none ρ D)
        (recursion-ties b (recursion_list c i p) (issuer_copy_after c i p) (path_of_identifiers c i p) (fits_recursion ρ D c nodes k i p f low)
        (λ m h. let q = from_In-recursion_list D c i p m h in issuer_copy_after-issued D c i p m q.0 q.1))

    permutations-ties : (b : Option Chosen) (i : List ℕ) (ps : List (List ℕ)) → Fits ρ D c nodes (suc k) i → ((p : List ℕ) → In p ps → (x : ℕ) → In x p → x < D.nodes)
        → AreTies ρ D (counted_permutations (counted_call_within k ρ D c) b c i ps).trace.ties
    permutations-ties b i [] f low = are_ties-none ρ D
    permutations-ties b i (p ∷ ps) f low =
        let t = counted_permutation (counted_call_within k ρ D c) (chosen_text b) c i p in
        are_ties-append ρ D t.trace.ties _ (permutation-ties (chosen_text b) i p f (low p (inl refl))) (permutations-ties (choose b t.value) i ps f (λ q h. low q (inr h)))

    -- ---- one group, begun with the issuer i

    module _ (n : ℕ) (passed : List ℕ) (h : Text) (i : List ℕ) (begun : MayBeBegun ρ D c n passed h i) (f : Fits ρ D c nodes (suc k) i) (some : ¬ (i ≡ [])) where
      abbrev bag : List ℕ
      bag = (groups ρ D c passed n).nodes h

      abbrev path : List ℕ → Text
      path = path_of (counted_call_within k ρ D c) c i

      abbrev issuer : List ℕ → List ℕ
      issuer = issuer_of (counted_call_within k ρ D c) c i

      bag_below : (p : List ℕ) → Permutes bag p → (x : ℕ) → In x p → x < D.nodes
      bag_below p q x a = nodes_of_groups ρ D c nodes passed n h x (In-Permutes x (Permutes-sym q) a)

      walks : (p : List ℕ) → Permutes bag p → PermutationPath (HashNDegreeQuads ρ D c) c i p (path p) (issuer p)
      walks p q = record {
        results = full_path (counted_call_within k ρ D c) c (issuer_copy_after c i p) (recursion_list c i p);
        calls = permutation_path-counted ρ D c nodes k (HashNDegreeQuads ρ D c) (hash_n_degree_quads-covers D c ρ) (outcome-counted k) i p f (bag_below p q);
        path_is = refl;
      }

      exchanged : (p q : List ℕ) → Permutes bag p → Permutes bag q → MayBeExchanged D c i (issuer p) (issuer q)
      exchanged = permutations-exchanged ρ D c nodes (suc k) bag i (nodes_of_groups ρ D c nodes passed n h) f (record { path = path; issuer = issuer; walks = walks })

      tied_paths : (p q : List ℕ) → Permutes bag p → Permutes bag q → ((r : List ℕ) → Permutes bag r → is_before (path r) (path p) ≡ false) → path p ≡ path q
          → AreTiedPaths ρ D c i (issuer p) (issuer q)
      tied_paths p q a b least same = record {
        some_passed = some;
        node = n;
        call_issuer = passed;
        hash = h;
        begun = begun;
        paths = record { path = path; issuer = issuer; walks = walks };
        first = p;
        other = q;
        first_is_least = record { permutes = a; least = least };
        other_permutes = b;
        same_path = same;
        left_is = refl;
        right_is = refl;
      }

      chosen-ties : (b : Option Chosen) → Kept (counted_call_within k ρ D c) c i b (Either (counted_call_within k ρ D c) c i (λ q. ⊥) (arrangements bag)) → AreTies ρ D (ties_of_chosen b c i)
      unfolding Kept
      chosen-ties None kept t h = absurd h
      chosen-ties (Some b) kept t h =
          let r = from_In-map (λ right. record { canonical = c; passed = i; left = b.issuer; right = right }) b.others t h in
          let left = kept.all b.issuer (inl refl) in
          let right = kept.all r.0 (inr r.1) in
          let lp = arranged left.0 left.1 in
          let rp = arranged right.0 right.1 in
          let tie : IsTie ρ D (record { canonical = c; passed = i; left = issuer left.0; right = issuer right.0 }) = record {
            tied = inr (tied_paths left.0 right.0 lp rp (λ p q. subst (λ w. is_before (path p) w ≡ false) (sym left.2) (kept.below p (inr (In-arrangements bag p q)))) (left.2 ∙ sym right.2));
            may_be_exchanged = exchanged left.0 right.0 lp rp;
          } in
          subst (IsTie ρ D) (sym (r.2 ∙ (λ x. record { canonical = c; passed = i; left = sym left.3 x; right = sym right.3 x }))) tie
        where
          arranged : (q : List ℕ) → ⊥ ⊎ In q (arrangements bag) → Permutes bag q
          arranged q (inl g) = absurd g
          arranged q (inr g) = from_In-arrangements bag q g

    -- ---- the groups in turn

    -- what the call has done before the groups that are left
    record Standing (n : ℕ) (passed : List ℕ) (before : List Text) (s : Text) (i : List ℕ) : Type 0 where
      call : IsValidCall D c n passed
      begun : DataToHash (HashNDegreeQuads ρ D c) c (groups ρ D c passed n).nodes before passed s i
      fits : Fits ρ D c nodes (suc k) i
      some : ¬ (i ≡ [])

    groups-ties : (n : ℕ) (passed : List ℕ) (before : List Text) (s : Text) (i : List ℕ) (hs : List Text) → (groups ρ D c passed n).hashes ≡ before ++ hs → Standing n passed before s i
        → AreTies ρ D (counted_groups (counted_call_within k ρ D c) c (groups ρ D c passed n).nodes hs i).trace.ties
    groups-ties n passed before s i [] e st = are_ties-none ρ D
    groups-ties n passed before s i (h ∷ hs) e st =
        let bag = (groups ρ D c passed n).nodes h in
        let low = nodes_of_groups ρ D c nodes passed n h in
        let t = counted_permutations (counted_call_within k ρ D c) None c i (arrangements bag) in
        let chosen = group-counted ρ D c nodes k (HashNDegreeQuads ρ D c) (hash_n_degree_quads-covers D c ρ) (outcome-counted k) bag i st.fits low in
        let kept = counted_permutations-kept (counted_call_within k ρ D c) c i None (λ q. ⊥) (arrangements bag) (none_kept (counted_call_within k ρ D c) c i) in
        let g = counted_permutations-grows c (counted_call_within k ρ D c) (counted_call-grows D c ρ k) None i (arrangements bag) st.fits.distinct (begins_refl i, st.fits.distinct) in
        let begun : MayBeBegun ρ D c n passed h i = record { call = st.call; before = before; behind = hs; hashes_are = e; text = s; begun = st.begun } in
        let next : Standing n passed (before ++ h ∷ []) (s ++ (h ++ path_or_none t.value)) (issuer_or t.value i) = record {
          call = st.call;
          begun = data_to_hash-push (HashNDegreeQuads ρ D c) c (groups ρ D c passed n).nodes before h passed s i (path_or_none t.value) (issuer_or t.value i) st.begun chosen;
          fits = fits_counted_group ρ D c nodes k (HashNDegreeQuads ρ D c) (hash_n_degree_quads-covers D c ρ) (outcome-counted k) bag i st.fits low;
          some = λ q. st.some (front_nil i g.0.tail (sym g.0.is ∙ q));
        } in
        are_ties-append ρ D t.trace.ties _ (permutations-ties None i (arrangements bag) st.fits (λ p a x u. low x (In-Permutes x (Permutes-sym (from_In-arrangements bag p a)) u)))
        (are_ties-append ρ D (ties_of_chosen t.value c i) _ (chosen-ties n passed h i begun st.fits st.some t.value kept)
        (groups-ties n passed (before ++ h ∷ []) (s ++ (h ++ path_or_none t.value)) (issuer_or t.value i) hs (e ∙ sym (append_assoc before (h ∷ []) hs)) next))
      where
        front_nil : (i e : List ℕ) → i ++ e ≡ [] → i ≡ []
        front_nil [] e q = refl
        front_nil (x ∷ i) e q = cc

  pub counted_call-ties : (k m : ℕ) (i : List ℕ) → is_issued m i ≡ true → Fits ρ D c nodes k i → AreTies ρ D (counted_call_within k ρ D c m i).trace.ties
  counted_call-ties zero m i hm f = are_ties-none ρ D
  counted_call-ties (suc k) m i hm f =
      groups-ties k (counted_call-ties k) m i [] [] i (groups ρ D c i m).hashes refl (record {
        call = valid_call (suc k) m i hm f;
        begun = (refl, refl);
        fits = f;
        some = λ e. true≢false (sym hm ∙ ap (is_issued m) e);
      })

pub ties_of_call_are_tied : TiesOfCallAreTied
unfolding counted_call
ties_of_call_are_tied ρ D c n i valid v =
    counted_call-ties ρ D c (mentions_nodes D valid) (record { once = are_once_from_distinct c v.canonical_once; below = λ x h. v.canonical_nodes x (In-from_is_issued x c h) })
    (suc D.nodes) n i (is_issued-from_In n i v.listed) (fits_valid_call ρ D c (mentions_nodes D valid) (suc D.nodes) n i v (omega arith))
