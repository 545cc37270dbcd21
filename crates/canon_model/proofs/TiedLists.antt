-- The lists of tied outcomes may be exchanged: what holds of them follows from how they came about.
use Rattle.std.proofs.Common.{List, [], arith, inl, inr, refl, subst, suc, sym, ℕ, ◌<◌, ◌∷◌, ◌⊎◌}
use Rattle.rdf_terms.proofs.Common.{In-append, In-append_right, In-Permutes, Permutes-sym, Dataset, In, Permutes, Text}
use Rattle.canon_model.specs.Coverage.{BeginsWith, Reached, begin, onward}
use Rattle.canon_model.specs.Groups.{groups}
use Rattle.canon_model.specs.Outcome.{DataToHash, HashNDegreeQuads, PathsOfPermutations}
use Rattle.canon_model.specs.Hashing.{Hashing}
use Rattle.canon_model.specs.TieSymmetry.{TiedMayBeExchanged}
use Rattle.canon_model.specs.Ties.{AreTiedPaths, AreTiedResults, MayBeExchanged}
use Rattle.canon_model.proofs.Components.{IsComponent, components-tails}
use Rattle.canon_model.proofs.Coverage.{Reaches, walk-reaches}
use Rattle.canon_model.proofs.Issuers.{AreOnce, are_distinct_from_once, are_once-apart, is_issued-from_In, not_In-from_is_issued}
use Rattle.canon_model.proofs.LocalSymmetry.{AreQuads, are_quads}
use Rattle.canon_model.proofs.OutcomeComponents.{component_of_outcome}
use Rattle.canon_model.proofs.OutcomesGrow.{AllGrow, n_degree_within-grows, permutation_path-grows}
use Rattle.canon_model.proofs.Totality.{Fits, MentionsNodes, fits_after_path, fits_valid_call, mentions_nodes, nodes_of_groups}

-- ---- the tails of two lists with the same nodes

in_other_tail : (i l m : List ℕ) (p : BeginsWith i l) (q : BeginsWith i m) → AreOnce l → ((x : ℕ) → In x l → In x m) → (x : ℕ) → In x p.tail → In x q.tail
in_other_tail i l m p q d sub x h = by (In-append i q.tail x (subst (In x) q.is (sub x (subst (In x) (sym p.is) (In-append_right i p.tail x h)))))
  where
    by : In x i ⊎ In x q.tail → In x q.tail
    by (inl a) = absurd (are_once-apart i p.tail (subst AreOnce p.is d) x a h)
    by (inr a) = a

-- ---- two permutations of one group

module _ (ρ : Hashing) (D : Dataset) (c : List ℕ) (nodes : MentionsNodes D) where
  pub outcomes_grow : AllGrow c (HashNDegreeQuads ρ D c)
  outcomes_grow m k h j d w = n_degree_within-grows c ρ D (suc D.nodes) m k h j d w.outcome

  module _ (k : ℕ) (bag i : List ℕ) (low : (x : ℕ) → In x bag → x < D.nodes) (f : Fits ρ D c nodes k i) (w : PathsOfPermutations (HashNDegreeQuads ρ D c) c bag i) where
    reaches : (p : List ℕ) → Permutes bag p → Reaches D c i (λ y. In y p) (w.issuer p)
    reaches p q = walk-reaches ρ D c i p (w.path p) (w.issuer p) (w.walks p q)

    pub fits_issuer : (p : List ℕ) → Permutes bag p → Fits ρ D c nodes k (w.issuer p)
    fits_issuer p q = fits_after_path ρ D c nodes k i p (w.issuer p) (λ x a. low x (In-Permutes x (Permutes-sym q) a))
        (permutation_path-grows c (HashNDegreeQuads ρ D c) outcomes_grow i p (w.path p) (w.issuer p) f.distinct (w.walks p q)) (reaches p q) f

    reach : (p q : List ℕ) → ((y : ℕ) → In y p → In y q) → {x : ℕ} → Reached D c i (λ y. In y p) x → Reached D c i (λ y. In y q) x
    reach p q sub (begin {x = x} a u v) = begin (sub x a) u v
    reach p q sub (onward a t u v) = onward (reach p q sub a) t u v

    -- two permutations of one list are covered alike
    pub covered_alike : (p q : List ℕ) → Permutes bag p → Permutes bag q → (x : ℕ) → In x (w.issuer p) → In x (w.issuer q)
    covered_alike p q a b x h = ((reaches q b).nodes x).1 (over (((reaches p a).nodes x).0 h))
      where
        over : In x i ⊎ Reached D c i (λ y. In y p) x → In x i ⊎ Reached D c i (λ y. In y q) x
        over (inl u) = inl u
        over (inr u) = inr (reach p q (λ y v. In-Permutes y b (In-Permutes y (Permutes-sym a) v)) u)

    pub permutations-exchanged : (p q : List ℕ) → Permutes bag p → Permutes bag q → MayBeExchanged D c i (w.issuer p) (w.issuer q)
    permutations-exchanged p q a b = record {
      left_nodes = λ x h. (fits_issuer p a).below x (is_issued-from_In x (w.issuer p) h);
      right_nodes = λ x h. (fits_issuer q b).below x (is_issued-from_In x (w.issuer q) h);
      left_once = are_distinct_from_once (w.issuer p) (fits_issuer p a).distinct;
      right_once = are_distinct_from_once (w.issuer q) (fits_issuer q b).distinct;
      left_apart = λ x h. not_In-from_is_issued x c ((fits_issuer p a).apart x (is_issued-from_In x (w.issuer p) h));
      right_apart = λ x h. not_In-from_is_issued x c ((fits_issuer q b).apart x (is_issued-from_In x (w.issuer q) h));
      left_tail = (reaches p a).begins.tail;
      right_tail = (reaches q b).begins.tail;
      left_is = (reaches p a).begins.is;
      right_is = (reaches q b).begins.is;
      tails = inl (λ x. (
        in_other_tail i (w.issuer p) (w.issuer q) (reaches p a).begins (reaches q b).begins (fits_issuer p a).distinct (covered_alike p q a b) x,
        in_other_tail i (w.issuer q) (w.issuer p) (reaches q b).begins (reaches p a).begins (fits_issuer q b).distinct (covered_alike q p b a) x,
      ));
    }

  pub fits_data_to_hash : (k : ℕ) (b : Text → List ℕ) → ((h : Text) (x : ℕ) → In x (b h) → x < D.nodes) → (hs : List Text) (i : List ℕ) (s : Text) (j : List ℕ) → Fits ρ D c nodes k i
      → DataToHash (HashNDegreeQuads ρ D c) c b hs i s j → Fits ρ D c nodes k j
  fits_data_to_hash k b low [] i s j f w = subst (Fits ρ D c nodes k) (sym w.1) f
  fits_data_to_hash k b low (h ∷ hs) i s j f w =
      let p = w.chosen_path in
      fits_data_to_hash k b low hs w.issuer w.rest j (subst (Fits ρ D c nodes k) (sym p.issuer_is) (fits_issuer k (b h) i (low h) f p.paths p.chosen p.is_least.permutes)) w.following

  tied_paths-exchanged : (i l m : List ℕ) → AreTiedPaths ρ D c i l m → MayBeExchanged D c i l m
  tied_paths-exchanged i l m t =
      let bag = (groups ρ D c t.call_issuer t.node).nodes in
      let low = nodes_of_groups ρ D c nodes t.call_issuer t.node in
      let start : Fits ρ D c nodes (suc D.nodes) t.call_issuer = fits_valid_call ρ D c nodes (suc D.nodes) t.node t.call_issuer t.begun.call (omega arith) in
      let f : Fits ρ D c nodes (suc D.nodes) i = fits_data_to_hash (suc D.nodes) bag low t.begun.before t.call_issuer t.begun.text i start t.begun.begun in
      subst (λ v. MayBeExchanged D c i v m) (sym t.left_is) (subst (MayBeExchanged D c i (t.paths.issuer t.first)) (sym t.right_is)
      (permutations-exchanged (suc D.nodes) (bag t.hash) i (low t.hash) f t.paths t.first t.other t.first_is_least.permutes t.other_permutes))

-- ---- two results

pub tied_results-exchanged : (ρ : Hashing) (D : Dataset) (nodes : MentionsNodes D) (quads : AreQuads D) (c i l m : List ℕ) → AreTiedResults ρ D c i l m → MayBeExchanged D c i l m
tied_results-exchanged ρ D nodes quads c i l m t = subst (λ k. MayBeExchanged D c k l m) (sym t.none_passed) (record {
  left_nodes = λ z a. p.below z (is_issued-from_In z l a);
  right_nodes = λ z a. q.below z (is_issued-from_In z m a);
  left_once = are_distinct_from_once l p.distinct;
  right_once = are_distinct_from_once m q.distinct;
  left_apart = λ z a. not_In-from_is_issued z c (p.free z (is_issued-from_In z l a));
  right_apart = λ z a. not_In-from_is_issued z c (q.free z (is_issued-from_In z m a));
  left_tail = l;
  right_tail = m;
  left_is = refl;
  right_is = refl;
  tails = components-tails D quads c t.left_start t.right_start l m p q;
})
  where
    p : IsComponent D quads c t.left_start l
    p = component_of_outcome ρ D nodes quads c t.left_start t.hash l t.left_outcome

    q : IsComponent D quads c t.right_start m
    q = component_of_outcome ρ D nodes quads c t.right_start t.hash m t.right_outcome

pub tied_may_be_exchanged : TiedMayBeExchanged
tied_may_be_exchanged ρ D valid c i l m (inl t) = tied_results-exchanged ρ D (mentions_nodes D valid) (are_quads D valid) c i l m t
tied_may_be_exchanged ρ D valid c i l m (inr t) = tied_paths-exchanged ρ D c (mentions_nodes D valid) i l m t
