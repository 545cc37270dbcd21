-- Start nodes one after the other.
use Rattle.std.proofs.Common.{◌≡◌, ℕ, suc, ◌+◌, ◌<◌, List, [], ◌∷◌, ◌++◌, length, take, drop, get_or, drop-cons, map, sym, ap, ◌∙◌, subst, arith}
use Rattle.std.proofs.lemmas.List.{take-append-drop, take_more, map-append}
use Rattle.rdf_terms.specs.Dataset.{Dataset}
use Rattle.canon_model.specs.Allowed.{HashPathResult}
use Rattle.canon_model.specs.CountedRun.{Trace, counted_start, followed_by, result_of, trace_of_starts}
use Rattle.canon_model.specs.Hashing.{Hashing}
use Rattle.ndegree_hash.specs.Log.{LoggedTies, LogsAll}
use Rattle.ndegree_hash.proofs.Traces.{followed_by-nothing}
use Rattle.ndegree_hash.proofs.Logging.{logs_all-append}
use Rattle.canon_core.proofs.OnTheWay.{starts-append}

module _ (ρ : Hashing) (D : Dataset) (c nodes : List ℕ) (i d : ℕ) (l : i < length nodes) where
  done-next : trace_of_starts ρ D c (take (i + 1) nodes) ≡ followed_by (trace_of_starts ρ D c (take i nodes)) (counted_start ρ D c (get_or nodes i d)).trace
  done-next =
      ap (trace_of_starts ρ D c) (take_more nodes i d l) ∙ starts-append ρ D c (take i nodes) (get_or nodes i d ∷ [])
      ∙ ap (followed_by (trace_of_starts ρ D c (take i nodes))) (followed_by-nothing (counted_start ρ D c (get_or nodes i d)).trace)

  pub next-units : (s0 s u : ℕ) → s ≡ s0 + (trace_of_starts ρ D c (take i nodes)).units → u ≡ s + (counted_start ρ D c (get_or nodes i d)).trace.units
      → u ≡ s0 + (trace_of_starts ρ D c (take (i + 1) nodes)).units
  next-units s0 s u e f = let g = ap (λ (t : Trace). t.units) done-next in omega arith

  pub next-ties : (l0 m n : LoggedTies) → LogsAll D (trace_of_starts ρ D c (take i nodes)).ties l0 m → LogsAll D (counted_start ρ D c (get_or nodes i d)).trace.ties m n
      → LogsAll D (trace_of_starts ρ D c (take (i + 1) nodes)).ties l0 n
  next-ties l0 m n f g =
      subst (λ (t : Trace). LogsAll D t.ties l0 n) (sym done-next) (logs_all-append D (trace_of_starts ρ D c (take i nodes)).ties (counted_start ρ D c (get_or nodes i d)).trace.ties l0 m n f g)

  pub next-results : (results new : List HashPathResult) (found : HashPathResult) → results ≡ map (result_of ρ D c) (take i nodes) → found ≡ result_of ρ D c (get_or nodes i d)
      → new ≡ results ++ found ∷ [] → new ≡ map (result_of ρ D c) (take (i + 1) nodes)
  next-results results new found e f g =
      g ∙ (λ j. e j ++ f j ∷ []) ∙ sym (map-append (result_of ρ D c) (take i nodes) (get_or nodes i d ∷ [])) ∙ ap (map (result_of ρ D c)) (sym (take_more nodes i d l))

  all-units : (trace_of_starts ρ D c nodes).units
      ≡ (trace_of_starts ρ D c (take i nodes)).units + ((counted_start ρ D c (get_or nodes i d)).trace.units + (trace_of_starts ρ D c (drop (suc i) nodes)).units)
  all-units =
      let parts : nodes ≡ take i nodes ++ get_or nodes i d ∷ drop (suc i) nodes = sym (take-append-drop i nodes) ∙ ap (λ ns. take i nodes ++ ns) (drop-cons nodes i d l) in
      ap (λ ns. (trace_of_starts ρ D c ns).units) parts ∙ ap (λ (t : Trace). t.units) (starts-append ρ D c (take i nodes) (get_or nodes i d ∷ drop (suc i) nodes))

  -- the limit is passed on this start node, and so by all
  pub over-start : (s0 s limit : ℕ) → s ≡ s0 + (trace_of_starts ρ D c (take i nodes)).units → limit < s + (counted_start ρ D c (get_or nodes i d)).trace.units
      → limit < s0 + (trace_of_starts ρ D c nodes).units
  over-start s0 s limit e over = let g = all-units in omega arith
