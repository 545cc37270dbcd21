-- What the results of one class are asked, and what they give.
use Rattle.std.proofs.Common.{filter, ◌≡◌, ℕ, ◌+◌, ◌<◌, ◌≤◌, All, List, [], ◌∷◌, ◌++◌, append-nil, length, get_or, map, nat_cmp, refl, sym, ap, ◌∙◌, subst, arith}
use Rattle.rdf_terms.proofs.Common.{Dataset, IsValid, In, Text, numbers_below, length-Permutes, map-map, In-get_or}
use Rattle.canon_model.specs.Allowed.{HashPathResult, has_first_degree_hash, has_no_canonical, nodes_with_hash, start_of, unissued_nodes}
use Rattle.canon_model.specs.CountedRun.{counted_results, result_of, sort_results, ties_of_results, trace_of_starts}
use Rattle.canon_model.specs.Hashing.{Hashing}
use Rattle.canon_model.proofs.CanonicalLists.{AreCanonical, valid_start}
use Rattle.canon_model.proofs.CountedAllowed.{counted_results-canonical, outcome_of_start}
use Rattle.canon_model.proofs.Issuers.{In-from_is_issued, are_distinct_from_once, are_once_from_distinct, is_issued-from_In}
use Rattle.canon_model.proofs.Maps.{map_identity}
use Rattle.canon_model.proofs.Recursion.{outcomes_are_valid}
use Rattle.canon_model.proofs.RunTies.{from_start, results-ties}
use Rattle.canon_model.proofs.SortedResults.{sort_results-permutes}
use Rattle.canon_model.proofs.StartNodes.{unissued_node}
use Rattle.ndegree_hash.specs.Log.{LoggedTies, LogsAll, LogsInTurn}
use Rattle.ndegree_hash.proofs.Logging.{logs-all, logs_all-append}
use Rattle.canon_core.specs.Classes.{IsCanonicalSoFar, run_of_class}
use Rattle.canon_core.specs.HashOrder.{StrictlyAscends, class_hash, node_of}
use Rattle.ndegree_hash.specs.OwedTies.{MayBeLogged}
use Rattle.canon_core.specs.Results.{MayStart, StartsAscend}
use Rattle.canon_core.proofs.Ascending.{StrictlyAscends-filter, StrictlyAscends-numbers_below}
use Rattle.std.proofs.lemmas.List.{length-map}

canonical-so_far : (D : Dataset) (c : List ℕ) → IsCanonicalSoFar D c → AreCanonical D c
canonical-so_far D c s = record { once = are_once_from_distinct c s.once; below = λ x h. s.below x (In-from_is_issued x c h) }

pub so_far-canonical : (D : Dataset) (c : List ℕ) → AreCanonical D c → IsCanonicalSoFar D c
so_far-canonical D c k = record { once = are_distinct_from_once c k.once; below = λ x h. k.below x (is_issued-from_In x c h) }

-- the start nodes of a class are those of its nodes that have no canonical identifier
pub start-nodes : (ρ : Hashing) (D : Dataset) (c : List ℕ) (class : List (Text × ℕ)) → map node_of class ≡ nodes_with_hash ρ D (class_hash class) → (nodes found : List ℕ) → nodes ≡ found
    → found ≡ filter (has_no_canonical c) (map node_of class) → nodes ≡ unissued_nodes ρ D c (class_hash class)
start-nodes ρ D c class all nodes found e f = e ∙ f ∙ ap (filter (has_no_canonical c)) all

module _ (ρ : Hashing) (D : Dataset) (valid : IsValid D) (c : List ℕ) (so_far : IsCanonicalSoFar D c) (h : Text) where
  k : AreCanonical D c
  k = canonical-so_far D c so_far

  -- ---- the start nodes

  pub may-start : (nodes : List ℕ) → nodes ≡ unissued_nodes ρ D c h → (j d : ℕ) → j < length nodes → MayStart D c (get_or nodes j d)
  may-start nodes e j d l =
      let s = unissued_node ρ D c h (get_or nodes j d) (subst (λ ns. In (get_or nodes j d) ns) e (In-get_or nodes j d l)) in
      valid_start D c k (get_or nodes j d) s.0 s.1

  starts-are : (ns : List ℕ) → map start_of (map (result_of ρ D c) ns) ≡ ns
  starts-are ns = map-map start_of (result_of ρ D c) ns ∙ map_identity (λ n. n) (λ n. refl) ns

  unissued-ascend : StrictlyAscends nat_cmp (unissued_nodes ρ D c h)
  unissued-ascend =
      StrictlyAscends-filter nat_cmp (has_no_canonical c) (nodes_with_hash ρ D h)
      (StrictlyAscends-filter nat_cmp (has_first_degree_hash ρ D h) (numbers_below D.nodes) (StrictlyAscends-numbers_below D.nodes))

  pub starts-ascend : (nodes : List ℕ) (results : List HashPathResult) → nodes ≡ unissued_nodes ρ D c h → results ≡ map (result_of ρ D c) nodes → StartsAscend results
  starts-ascend nodes results e f = subst (StrictlyAscends nat_cmp) (sym (ap (map start_of) f ∙ starts-are nodes ∙ e)) unissued-ascend

  -- ---- the results

  pub results-are : (nodes : List ℕ) (results sorted ordered : List HashPathResult) → nodes ≡ unissued_nodes ρ D c h → results ≡ map (result_of ρ D c) nodes → sorted ≡ sort_results results
      → ordered ≡ sorted → ordered ≡ counted_results ρ D c h
  results-are nodes results sorted ordered e f g same = same ∙ g ∙ ap sort_results (f ∙ ap (map (result_of ρ D c)) e)

  results-length : length (counted_results ρ D c h) ≡ length (unissued_nodes ρ D c h)
  results-length = sym (length-Permutes (sort_results-permutes (map (result_of ρ D c) (unissued_nodes ρ D c h)))) ∙ length-map (unissued_nodes ρ D c h) (result_of ρ D c)

  pub as-many : (nodes : List ℕ) (ordered : List HashPathResult) → nodes ≡ unissued_nodes ρ D c h → ordered ≡ counted_results ρ D c h → length ordered ≡ length nodes
  as-many nodes ordered e f = ap (λ rs. length rs) f ∙ results-length ∙ ap (λ ns. length ns) (sym e)

  pub may-be-logged : (ordered : List HashPathResult) → ordered ≡ counted_results ρ D c h → MayBeLogged D (ties_of_results c ordered)
  may-be-logged ordered e = subst (λ rs. MayBeLogged D (ties_of_results c rs)) (sym e) (λ t i. (results-ties ρ D valid c k h t i).may_be_exchanged)

  node-below : (r : HashPathResult) → In r (counted_results ρ D c h) → (x : ℕ) → In x r.issuer → x < D.nodes
  node-below r i x m =
      let s = from_start ρ D valid c k h r i in
      let v = outcomes_are_valid ρ D c s.0 (s.0 ∷ []) valid (result_of ρ D c s.0).hash (result_of ρ D c s.0).issuer (outcome_of_start ρ D valid c k h s.0 s.1) in
      v.valid.temporary_nodes x (subst (λ (q : HashPathResult). In x q.issuer) s.2 m)

  pub nodes-below : (bound : ℕ) → D.nodes ≤ bound → (ordered : List HashPathResult) → ordered ≡ counted_results ρ D c h → All (λ (r : HashPathResult). All (λ n. n < bound) r.issuer) ordered
  nodes-below bound b ordered e j d l i x m =
      let r : HashPathResult = get_or ordered j d in
      let low : get_or r.issuer i x < D.nodes = node-below r (subst (λ rs. In r rs) e (In-get_or ordered j d l)) (get_or r.issuer i x) (In-get_or r.issuer i x m) in
      omega arith

  -- ---- what they give

  pub class-canonical : IsCanonicalSoFar D (run_of_class ρ D h c).value
  class-canonical = so_far-canonical D _ (counted_results-canonical ρ D valid c k h)

  pub class-logs : (nodes : List ℕ) (ordered : List HashPathResult) (old mid new : LoggedTies) → nodes ≡ unissued_nodes ρ D c h → ordered ≡ counted_results ρ D c h
      → LogsAll D (trace_of_starts ρ D c nodes).ties old mid → LogsInTurn D (ties_of_results c ordered) mid new
      → LogsAll D (run_of_class ρ D h c).trace.ties old new
  class-logs nodes ordered old mid new e f l m =
      let starts = (trace_of_starts ρ D c (unissued_nodes ρ D c h)).ties in
      let own = ties_of_results c (counted_results ρ D c h) in
      let first : LogsAll D starts old mid = subst (λ ns. LogsAll D (trace_of_starts ρ D c ns).ties old mid) e l in
      let second : LogsAll D own mid new = logs-all D own mid new (subst (λ rs. LogsInTurn D (ties_of_results c rs) mid new) f m) in
      subst (λ ts. LogsAll D ts old new) (sym (append-nil (starts ++ own))) (logs_all-append D starts own old mid new first second)
