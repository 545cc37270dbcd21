-- Every valid call has an outcome: that of the counted run.
use Rattle.std.proofs.Common.{Bool, IfSome, List, None, Option, Some, [], arith, eqb-true, false, inl, inr, length, refl, subst, suc, sym, true, true≢false, zero, ℕ, ◌+◌, ◌<◌, ◌||◌, ◌∷◌, ◌≡◌, ◌⊎◌}
use Rattle.std.proofs.lemmas.Bool.{or_cases}
use Rattle.rdf_terms.proofs.Common.{In-Permutes, Permutes-refl, Permutes-sym, Dataset, IsValid, is_named_by, is_node, mentions, In, Text, IsValidStatement, IsValidTerm, Statement, arrangements, each-from_All}
use Rattle.rdf_terms.specs.declared.term.Term.{Term}
use Rattle.rdf_terms.specs.declared.term.Term.TheVariants.{Blank, Iri, Literal}
use Rattle.canon_model.specs.CountedRun.{counted_call, counted_call_within, counted_groups, counted_permutations, issuer_or, path_or_none}
use Rattle.canon_model.specs.Coverage.{Reached, ShareQuad, begin, onward}
use Rattle.canon_model.specs.Groups.{groups}
use Rattle.canon_model.specs.Issuer.{IsValidCall, is_issued}
use Rattle.canon_model.specs.Laws.{CountedCallIsOutcome, TotalityOfCalls}
use Rattle.canon_model.specs.Outcome.{ChosenPath, DataToHash, NDegreeWithin}
use Rattle.canon_model.specs.Hashing.{Hashing}
use Rattle.canon_model.specs.Walk.{CallRelation, RecursionResults, issuer_copy_after, recursion_list}
use Rattle.canon_model.proofs.CountedGrows.{counted_call-grows, counted_permutations-grows}
use Rattle.canon_model.proofs.CountedPaths.{chosen_path-counted, counted_permutations-kept, full_issuer, full_path, none_kept}
use Rattle.canon_model.proofs.Coverage.{AllCover, CallCovers, Reaches, from_In-recursion_list, issuer_copy_after-issued, issuer_copy_after-new, n_degree_within-covers, permutation_path-reaches, reached_free}
use Rattle.canon_model.proofs.Issuers.{AreOnce, Grows, In-from_is_issued, are_once_from_distinct, begins_refl, is_issued-begins, is_issued-from_In, is_issued-from_not_In, issuer_copy_after-grows, not_In-from_is_issued}
use Rattle.canon_model.proofs.Neighbours.{from_In-blank_node_list}
use Rattle.canon_model.proofs.Pigeonhole.{are_once-length, begins-length, begins-length_new}

-- every blank node of a quad is a node of the dataset
abbrev pub MentionsNodes : Dataset → Type 0
MentionsNodes D = (q : Statement) → In q D.statements → (x : ℕ) → mentions x q ≡ true → x < D.nodes

module _ (ρ : Hashing) (D : Dataset) (c : List ℕ) (nodes : MentionsNodes D) where
  -- a list that a call may be begun with, that calls k deep are enough for
  pub record Fits (k : ℕ) (i : List ℕ) : Type 0 where
    pub distinct : AreOnce i
    pub below : (x : ℕ) → is_issued x i ≡ true → x < D.nodes
    pub apart : (x : ℕ) → is_issued x i ≡ true → is_issued x c ≡ false
    pub deep : D.nodes < k + length i

  pub share_below : (x y : ℕ) → ShareQuad D x y → y < D.nodes
  share_below x y s = nodes s.statement s.there y s.mentions_second

  pub reached_below : (i : List ℕ) (S : ℕ → Type 0) → ((x : ℕ) → S x → x < D.nodes) → {x : ℕ} → Reached D c i S x → x < D.nodes
  reached_below i S f (begin {x = x} s a b) = f x s
  reached_below i S f (onward {x = x} {y = y} r s a b) = share_below x y s

  -- a list that adds reached nodes to one that fits
  fits_more : (k : ℕ) (i : List ℕ) (S : ℕ → Type 0) (j : List ℕ) → ((x : ℕ) → S x → x < D.nodes) → Grows i j → ((x : ℕ) → is_issued x j ≡ true → is_issued x i ≡ false → Reached D c i S x) → Fits k i
      → Fits k j
  fits_more k i S j low g sound f = record {
    distinct = g.1;
    below = λ x h. below x h (is_issued x i) refl;
    apart = λ x h. apart x h (is_issued x i) refl;
    deep = let l = begins-length i j g.0 in let r = f.deep in omega arith;
  }
    where
      below : (x : ℕ) → is_issued x j ≡ true → (t : Bool) → is_issued x i ≡ t → x < D.nodes
      below x h true e = f.below x e
      below x h false e = reached_below i S low (sound x h e)

      apart : (x : ℕ) → is_issued x j ≡ true → (t : Bool) → is_issued x i ≡ t → is_issued x c ≡ false
      apart x h true e = f.apart x e
      apart x h false e = (reached_free D c i S (sound x h e)).0

  pub fits_after_call : (k m : ℕ) (i j : List ℕ) → Grows i j → CallCovers D c m i j → Fits k i → Fits k j
  fits_after_call k m i j g o f = fits_more k i (ShareQuad D m) j (share_below m) g o.step.sound f

  pub fits_after_path : (k : ℕ) (i p j : List ℕ) → ((x : ℕ) → In x p → x < D.nodes) → Grows i j → Reaches D c i (λ y. In y p) j → Fits k i → Fits k j
  fits_after_path k i p j low g cov f = fits_more k i (λ y. In y p) j low g sound f
    where
      sound : (x : ℕ) → is_issued x j ≡ true → is_issued x i ≡ false → Reached D c i (λ y. In y p) x
      sound x h e = by ((cov.nodes x).0 (In-from_is_issued x j h))
        where
          by : In x i ⊎ Reached D c i (λ y. In y p) x → Reached D c i (λ y. In y p) x
          by (inl a) = absurd (not_In-from_is_issued x i e a)
          by (inr a) = a

  -- each call of the recursion list is begun with a node more
  pub fits_recursion : (k : ℕ) (i p : List ℕ) → Fits (suc k) i → ((x : ℕ) → In x p → x < D.nodes) → (m : ℕ) → In m (recursion_list c i p) → Fits k (issuer_copy_after c i p)
  fits_recursion k i p f low m h = record {
    distinct = g.1;
    below = λ x e. below x e (is_issued x i) refl;
    apart = λ x e. apart x e (is_issued x i) refl;
    deep =
        let q = from_In-recursion_list D c i p m h in
        let l = begins-length_new i (issuer_copy_after c i p) m g.0 q.2 (issuer_copy_after-issued D c i p m q.0 q.1) in
        let r = f.deep in
        omega arith;
  }
    where
      g : Grows i (issuer_copy_after c i p)
      g = issuer_copy_after-grows c i p f.distinct

      below : (x : ℕ) → is_issued x (issuer_copy_after c i p) ≡ true → (t : Bool) → is_issued x i ≡ t → x < D.nodes
      below x h true e = f.below x e
      below x h false e = low x (issuer_copy_after-new D c i p x h e).0

      apart : (x : ℕ) → is_issued x (issuer_copy_after c i p) ≡ true → (t : Bool) → is_issued x i ≡ t → is_issued x c ≡ false
      apart x h true e = f.apart x e
      apart x h false e = (issuer_copy_after-new D c i p x h e).1

  -- the calls are k deep, and the outcomes of the counted ones are outcomes of S
  module _ (k : ℕ) (S : CallRelation) (cover : AllCover D c S)
      (counted : (m : ℕ) (i : List ℕ) → is_issued m i ≡ true → Fits k i → S m i (counted_call_within k ρ D c m i).value.text (counted_call_within k ρ D c m i).value.issuer) where
    pub fits_counted_call : (m : ℕ) (i : List ℕ) → is_issued m i ≡ true → Fits k i → Fits k (counted_call_within k ρ D c m i).value.issuer
    fits_counted_call m i hm f = fits_after_call k m i (counted_call_within k ρ D c m i).value.issuer (counted_call-grows D c ρ k m i f.distinct) (cover m i _ _ hm (counted m i hm f)) f

    recursion_results-counted : (ms i : List ℕ) → ((m : ℕ) → In m ms → Fits k i) → ((m : ℕ) → In m ms → is_issued m i ≡ true)
        → RecursionResults S c ms i (full_path (counted_call_within k ρ D c) c i ms) (full_issuer (counted_call_within k ρ D c) c i ms)
    recursion_results-counted [] i fit there = (refl, refl)
    recursion_results-counted (m ∷ ms) i fit there =
        let o = (counted_call_within k ρ D c m i).value in
        let f = fit m (inl refl) in
        let hm = there m (inl refl) in
        let g = counted_call-grows D c ρ k m i f.distinct in
        record {
          hash = o.text;
          issuer = o.issuer;
          rest = full_path (counted_call_within k ρ D c) c o.issuer ms;
          result = counted m i hm f;
          following = recursion_results-counted ms o.issuer (λ n h. fits_counted_call m i hm f) (λ n h. is_issued-begins n i o.issuer g.0 (there n (inr h)));
          path_is = refl;
        }

    pub permutation_path-counted : (i p : List ℕ) → Fits (suc k) i → ((x : ℕ) → In x p → x < D.nodes)
        → RecursionResults S c (recursion_list c i p) (issuer_copy_after c i p) (full_path (counted_call_within k ρ D c) c (issuer_copy_after c i p) (recursion_list c i p))
        (full_issuer (counted_call_within k ρ D c) c (issuer_copy_after c i p) (recursion_list c i p))
    permutation_path-counted i p f low =
        recursion_results-counted (recursion_list c i p) (issuer_copy_after c i p) (fits_recursion k i p f low)
        (λ m h. let q = from_In-recursion_list D c i p m h in issuer_copy_after-issued D c i p m q.0 q.1)

    pub group-counted : (bg i : List ℕ) → Fits (suc k) i → ((x : ℕ) → In x bg → x < D.nodes)
        → let t = counted_permutations (counted_call_within k ρ D c) None c i (arrangements bg) in ChosenPath S c bg i (path_or_none t.value) (issuer_or t.value i)
    group-counted bg i f low =
        chosen_path-counted (counted_call_within k ρ D c) c S bg i (λ p h. permutation_path-counted i p f (λ x a. low x (In-Permutes x (Permutes-sym h) a))) bg (Permutes-refl bg)
        (counted_permutations (counted_call_within k ρ D c) None c i (arrangements bg)).value
        (counted_permutations-kept (counted_call_within k ρ D c) c i None (λ q. ⊥) (arrangements bg) (none_kept (counted_call_within k ρ D c) c i))

    pub fits_counted_group : (bg i : List ℕ) → Fits (suc k) i → ((x : ℕ) → In x bg → x < D.nodes)
        → Fits (suc k) (issuer_or (counted_permutations (counted_call_within k ρ D c) None c i (arrangements bg)).value i)
    fits_counted_group bg i f low =
        let j = issuer_or (counted_permutations (counted_call_within k ρ D c) None c i (arrangements bg)).value i in
        let w = group-counted bg i f low in
        fits_after_path (suc k) i w.chosen j (λ x a. low x (In-Permutes x (Permutes-sym w.is_least.permutes) a))
        (counted_permutations-grows c (counted_call_within k ρ D c) (counted_call-grows D c ρ k) None i (arrangements bg) f.distinct (begins_refl i, f.distinct))
        (subst (Reaches D c i (λ y. In y w.chosen)) (sym w.issuer_is) (permutation_path-reaches D c S cover i w.chosen (w.paths.path w.chosen) (w.paths.issuer w.chosen)
        (w.paths.walks w.chosen w.is_least.permutes))) f

    pub data_to_hash-counted : (b : Text → List ℕ) → ((h : Text) (x : ℕ) → In x (b h) → x < D.nodes) → (hs : List Text) (i : List ℕ) → Fits (suc k) i
        → DataToHash S c b hs i (counted_groups (counted_call_within k ρ D c) c b hs i).value.text (counted_groups (counted_call_within k ρ D c) c b hs i).value.issuer
    data_to_hash-counted b low [] i f = (refl, refl)
    data_to_hash-counted b low (h ∷ hs) i f =
        let t = counted_permutations (counted_call_within k ρ D c) None c i (arrangements (b h)) in
        record {
          path = path_or_none t.value;
          issuer = issuer_or t.value i;
          rest = (counted_groups (counted_call_within k ρ D c) c b hs (issuer_or t.value i)).value.text;
          chosen_path = group-counted (b h) i f (low h);
          following = data_to_hash-counted b low hs (issuer_or t.value i) (fits_counted_group (b h) i f (low h));
          text_is = refl;
        }

  pub nodes_of_groups : (i : List ℕ) (m : ℕ) (h : Text) (x : ℕ) → In x ((groups ρ D c i m).nodes h) → x < D.nodes
  nodes_of_groups i m h x a = share_below m x (from_In-blank_node_list ρ D c i m h x a)

  pub n_degree_within-counted : (k m : ℕ) (i : List ℕ) → is_issued m i ≡ true → Fits k i → NDegreeWithin k ρ D c m i (counted_call_within k ρ D c m i).value.text
      (counted_call_within k ρ D c m i).value.issuer
  n_degree_within-counted zero m i hm f =
      let l = are_once-length D.nodes i f.distinct f.below in
      let r = f.deep in
      absurd (omega arith)
  n_degree_within-counted (suc k) m i hm f = record {
    text = (counted_groups (counted_call_within k ρ D c) c (groups ρ D c i m).nodes (groups ρ D c i m).hashes i).value.text;
    data_to_hash =
        data_to_hash-counted k (NDegreeWithin k ρ D c) (n_degree_within-covers D c ρ k) (n_degree_within-counted k) (groups ρ D c i m).nodes (nodes_of_groups i m) (groups ρ D c i m).hashes i f;
    hash_is = refl;
  }

-- ---- the laws

term_below : (nodes : ℕ) (t : Term) → IsValidTerm nodes t → (x : ℕ) → is_node x t ≡ true → x < nodes
term_below nodes (Iri t) v x h = absurd (true≢false (sym h))
term_below nodes (Blank m) v x h = subst (λ w. w < nodes) (eqb-true m x h) v
term_below nodes (Literal l) v x h = absurd (true≢false (sym h))

pub mentions_nodes : (D : Dataset) → IsValid D → MentionsNodes D
mentions_nodes D valid q h x m = by (or_cases (is_node x q.subject) (is_node x q.object || is_named_by x q.graph_name) m)
  where
    v : IsValidStatement D.nodes q
    v = each-from_All (IsValidStatement D.nodes) D.statements q valid.valid h

    named : (t : Option Term) → IfSome t (IsValidTerm D.nodes) → is_named_by x t ≡ true → x < D.nodes
    named None w e = absurd (true≢false (sym e))
    named (Some t) w e = term_below D.nodes t w x e

    two : (is_node x q.object ≡ true) ⊎ (is_named_by x q.graph_name ≡ true) → x < D.nodes
    two (inl e) = term_below D.nodes q.object v.object x e
    two (inr e) = named q.graph_name v.graph_name e

    by : (is_node x q.subject ≡ true) ⊎ ((is_node x q.object || is_named_by x q.graph_name) ≡ true) → x < D.nodes
    by (inl e) = term_below D.nodes q.subject v.subject x e
    by (inr e) = two (or_cases (is_node x q.object) (is_named_by x q.graph_name) e)

pub fits_valid_call : (ρ : Hashing) (D : Dataset) (c : List ℕ) (nodes : MentionsNodes D) (k n : ℕ) (i : List ℕ) → IsValidCall D c n i → D.nodes < k + length i → Fits ρ D c nodes k i
fits_valid_call ρ D c nodes k n i v deep = record {
  distinct = are_once_from_distinct i v.temporary_once;
  below = λ x h. v.temporary_nodes x (In-from_is_issued x i h);
  apart = λ x h. is_issued-from_not_In x c (λ g. v.apart x g (In-from_is_issued x i h));
  deep = deep;
}

pub counted_call_is_outcome : CountedCallIsOutcome
unfolding counted_call
counted_call_is_outcome ρ D c n i valid v = record {
  valid = v;
  outcome =
      n_degree_within-counted ρ D c (mentions_nodes D valid) (suc D.nodes) n i (is_issued-from_In n i v.listed) (fits_valid_call ρ D c (mentions_nodes D valid) (suc D.nodes) n i v (omega arith));
}

pub totality_of_calls : TotalityOfCalls
totality_of_calls ρ D c n i valid v = ((counted_call ρ D c n i).value.text, (counted_call ρ D c n i).value.issuer, counted_call_is_outcome ρ D c n i valid v)
