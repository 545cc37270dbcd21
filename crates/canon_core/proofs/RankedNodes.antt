-- All nodes in the order of their hashes are whole classes, whose hashes are those of the dataset in order.
use Rattle.canon_model.specs.Allowed.{start_of}
use Rattle.std.proofs.Common.{◌≡◌, ℕ, ◌<◌, List, [], ◌∷◌, map, length, nat_cmp, inl, refl, sym, ap, ◌∙◌, subst, arith, Equal, Ordering, Less, Greater}
use Rattle.std.specs.Cmp.{IsTotalOrder}
use Rattle.std.specs.Cmp.Lexicographic.{slice_cmp}
use Rattle.std.specs.Ordering.{ordering_then}
use Rattle.std.specs.List.Sorted.{IsSorted}
use Rattle.std.proofs.lemmas.Cmp.{nat_cmp_total, nat_list_cmp_total, on_total, then_total, ranked}
use Rattle.std.proofs.lemmas.List.{get_or-map}
use Rattle.rdf_terms.proofs.Common.{In, Permutes, Text, numbers_below, permutes_trans, sorted, In-map, from_In-map, AreDistinct-Permutes, In-Permutes, Permutes-from_equal, Permutes-map, Permutes-sym, AreDistinct-numbers_below, from_In-numbers_below, get_or-numbers_below, length-numbers_below, map-numbers_below, In-numbers_below as In_from_below, Ascends, sorted-Ascends, sorted-Permutes, is_at_most-from_not_before, map-map}
use Rattle.canon_model.specs.Groups.{each_text_once}
use Rattle.canon_model.proofs.Maps.{map_identity}
use Rattle.canon_core.specs.HashOrder.{IsRanked, StrictlyAscends, hash_in, hash_of, node_of, node_cmp, result_cmp, hash_of_result}
use Rattle.canon_core.proofs.Ascending.{ascends_from_sort}
use Rattle.canon_core.proofs.ClassSplit.{hash_not_before}

abbrev pub paired : (ℕ → Text) → ℕ → Text × ℕ
paired hash n = (hash n, n)

pub node_cmp_total : IsTotalOrder node_cmp
node_cmp_total = then_total (on_total hash_of nat_list_cmp_total) (on_total node_of nat_cmp_total)

pub result_cmp_total : IsTotalOrder result_cmp
result_cmp_total = then_total (on_total hash_of_result nat_list_cmp_total) (on_total start_of nat_cmp_total)

-- two that tie have one number
pub tied_numbers : (r : Ordering) (m n : ℕ) → ordering_then r (nat_cmp m n) ≡ Equal → m ≡ n
tied_numbers Less m n e = cc
tied_numbers Equal m n e = ranked m n Equal (sym e)
tied_numbers Greater m n e = cc

nodes_of_paired : (hash : ℕ → Text) (ns : List ℕ) → map node_of (map (paired hash) ns) ≡ ns
nodes_of_paired hash ns = map-map node_of (paired hash) ns ∙ map_identity (λ n. n) (λ n. refl) ns

-- what the sort gives
pub ascends-sorted : (hash : ℕ → Text) (count : ℕ) (nodes : List (Text × ℕ)) → Permutes (map (paired hash) (numbers_below count)) nodes → IsSorted node_cmp nodes → StrictlyAscends node_cmp nodes
ascends-sorted hash count nodes all up =
    ascends_from_sort node_cmp node_cmp_total node_of (λ x y e. tied_numbers (slice_cmp nat_cmp x.0 y.0) x.1 y.1 e) nodes up
    (AreDistinct-Permutes (subst (λ w. Permutes w (map node_of nodes)) (nodes_of_paired hash (numbers_below count)) (Permutes-map node_of all)) (AreDistinct-numbers_below count))

-- ---- hashes in a table

hash_in-map : (hash : ℕ → Text) (count n : ℕ) → n < count → hash_in (map hash (numbers_below count)) n ≡ hash n
hash_in-map hash count n l =
    let k : n < length (numbers_below count) = omega (arith, length-numbers_below count) in
    get_or-map hash (numbers_below count) n 0 [] k ∙ ap hash (get_or-numbers_below count n l)

pub permutes-table : (hash : ℕ → Text) (count : ℕ) (hashes : List Text) (nodes : List (Text × ℕ)) → hashes ≡ map hash (numbers_below count)
    → Permutes (map (λ n. (hash_in hashes n, n)) (numbers_below count)) nodes
    → Permutes (map (paired hash) (numbers_below count)) nodes
permutes-table hash count hashes nodes table all =
    permutes_trans
    (Permutes-from_equal (map-numbers_below (paired hash) (paired (hash_in hashes)) count (λ k l. ap (λ t. (t, k)) (sym (ap (λ hs. hash_in hs k) table ∙ hash_in-map hash count k l))))) all

-- ---- all nodes

module _ (hash : ℕ → Text) (count : ℕ) (nodes : List (Text × ℕ)) (all : Permutes (map (paired hash) (numbers_below count)) nodes) (up : StrictlyAscends node_cmp nodes) where
  from_number : (p : Text × ℕ) → In p nodes → (n : ℕ) × In n (numbers_below count) × (p ≡ paired hash n)
  from_number p i = from_In-map (paired hash) (numbers_below count) p (In-Permutes p (Permutes-sym all) i)

  pub ranked-all : IsRanked hash count nodes
  ranked-all = record {
    ascends = up;
    own_hash = λ p i. let f = from_number p i in ap hash_of f.2 ∙ ap hash (sym (ap node_of f.2));
    below = λ p i. let f = from_number p i in subst (λ n. n < count) (sym (ap node_of f.2)) (from_In-numbers_below count f.0 f.1);
    whole = λ p i n low e. In-Permutes (paired hash n) all (In-map (paired hash) (numbers_below count) n (In_from_below count n low));
  }

  texts-ascend : (ps : List (Text × ℕ)) → StrictlyAscends node_cmp ps → Ascends (map hash_of ps)
  texts-ascend [] a = tt
  texts-ascend (p ∷ []) a = (tt, tt)
  texts-ascend (p ∷ q ∷ ps) a = (is_at_most-from_not_before p.0 q.0 (hash_not_before p q (a.0 q (inl_refl q ps))), texts-ascend (q ∷ ps) a.1)
    where
      inl_refl : (q : Text × ℕ) (ps : List (Text × ℕ)) → In q (q ∷ ps)
      inl_refl q ps = inl refl

  texts-sorted : map hash_of nodes ≡ sorted (map hash (numbers_below count))
  texts-sorted =
      sym (sorted-Ascends (map hash_of nodes) (texts-ascend nodes up))
      ∙ sorted-Permutes (permutes_trans (Permutes-map hash_of (Permutes-sym all)) (Permutes-from_equal (map-map hash_of (paired hash) (numbers_below count))))

  pub hashes-are : each_text_once (map hash_of nodes) ≡ each_text_once (sorted (map hash (numbers_below count)))
  hashes-are = ap each_text_once texts-sorted
