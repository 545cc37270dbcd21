-- What was counted so far, followed by what is left, is the whole run.
use Rattle.std.proofs.Common.{◌≡◌, ℕ, ◌+◌, ◌<◌, List, [], ◌∷◌, ◌++◌, length, map, refl, sym, ap, ◌∙◌, arith}
use Rattle.rdf_terms.proofs.Common.{Dataset, Text}
use Rattle.canon_model.specs.CountedRun.{Counted, Trace, after, counted_hashes, counted_start, followed_by, nothing, trace_of_starts}
use Rattle.canon_model.specs.Groups.{each_text_once}
use Rattle.canon_model.specs.Hashing.{Hashing}
use Rattle.ndegree_hash.specs.Log.{LoggedTies, LogsAll}
use Rattle.ndegree_hash.proofs.Traces.{after-after, followed_by-assoc, followed_by-nothing, nothing-followed_by, after-nothing}
use Rattle.canon_core.specs.Classes.{run_of_class, run_from}
use Rattle.canon_core.specs.HashOrder.{behind_class, class_hash, front_class, hash_of}
use Rattle.canon_core.proofs.ClassSplit.{class_hash-front, once-class}
use Rattle.ndegree_hash.proofs.Logging.{logs_all-append, logs-none}

pub record IsOnTheWay (D : Dataset) (whole left : Counted (List ℕ)) (spent_before spent : ℕ) (log_before log : LoggedTies) : Type 0 where
  pub trace : Trace
  pub same : after trace left ≡ whole
  pub units : spent ≡ spent_before + trace.units
  pub logs : LogsAll D trace.ties log_before log

pub way-begins : (D : Dataset) (whole : Counted (List ℕ)) (spent : ℕ) (log : LoggedTies) → IsOnTheWay D whole whole spent spent log log
way-begins D whole spent log = record { trace = nothing; same = after-nothing whole; units = omega arith; logs = logs-none D log }

pub way-next : (D : Dataset) (whole left : Counted (List ℕ)) (t : Trace) (more : Counted (List ℕ)) (s0 s u : ℕ) (l0 l m : LoggedTies) → IsOnTheWay D whole left s0 s l0 l → left ≡ after t more
    → u ≡ s + t.units → LogsAll D t.ties l m
    → IsOnTheWay D whole more s0 u l0 m
way-next D whole left t more s0 s u l0 l m w e units logs = record {
  trace = followed_by w.trace t;
  same = sym (after-after w.trace t more) ∙ ap (after w.trace) (sym e) ∙ w.same;
  units = let k = w.units in omega arith;
  logs = logs_all-append D w.trace.ties t.ties l0 l m w.logs logs;
}

-- the limit is passed on the next stretch, and so by the whole
pub way-over : (D : Dataset) (whole left : Counted (List ℕ)) (t : Trace) (more : Counted (List ℕ)) (s0 s limit : ℕ) (l0 l : LoggedTies) → IsOnTheWay D whole left s0 s l0 l → left ≡ after t more
    → limit < s + t.units → limit < s0 + whole.trace.units
way-over D whole left t more s0 s limit l0 l w e over =
    let all : w.trace.units + (t.units + more.trace.units) ≡ whole.trace.units = ap (λ (o : Counted (List ℕ)). w.trace.units + o.trace.units) (sym e)
    ∙ ap (λ (o : Counted (List ℕ)). o.trace.units) w.same in
    let k = w.units in
    omega arith

-- ---- one class, and those behind it

module _ (ρ : Hashing) (D : Dataset) where
  first-class : (h : Text) (hs : List Text) (c : List ℕ) → counted_hashes ρ D (h ∷ hs) c ≡ after (run_of_class ρ D h c).trace (counted_hashes ρ D hs (run_of_class ρ D h c).value)
  first-class h hs c = ap (λ (t : Trace). after t (counted_hashes ρ D hs (run_of_class ρ D h c).value)) (sym (followed_by-nothing _))

  pub run-next : (p : Text × ℕ) (nodes : List (Text × ℕ)) (c : List ℕ)
      → run_from ρ D (p ∷ nodes) c ≡ after (run_of_class ρ D p.0 c).trace (run_from ρ D (behind_class p.0 (p ∷ nodes)) (run_of_class ρ D p.0 c).value)
  run-next p nodes c = ap (λ hs. counted_hashes ρ D hs c) (once-class p.0 p nodes refl) ∙ first-class p.0 (each_of nodes) c
    where
      each_of : List (Text × ℕ) → List Text
      each_of ns = each_text_once (map hash_of (behind_class p.0 (p ∷ ns)))

  pub run-class : (nodes class behind : List (Text × ℕ)) (c : List ℕ) → 0 < length nodes → class ≡ front_class (class_hash nodes) nodes → behind ≡ behind_class (class_hash nodes) nodes
      → run_from ρ D nodes c ≡ after (run_of_class ρ D (class_hash class) c).trace (run_from ρ D behind (run_of_class ρ D (class_hash class) c).value)
  run-class [] class behind c l e f = absurd (omega arith)
  run-class (p ∷ nodes) class behind c l e f =
      let h : class_hash class ≡ p.0 = ap class_hash e ∙ class_hash-front (p ∷ nodes) l in
      run-next p nodes c ∙ (λ i. after (run_of_class ρ D (sym h i) c).trace (run_from ρ D (sym f i) (run_of_class ρ D (sym h i) c).value))

  -- ---- start nodes one after the other

  pub starts-append : (c xs ys : List ℕ) → trace_of_starts ρ D c (xs ++ ys) ≡ followed_by (trace_of_starts ρ D c xs) (trace_of_starts ρ D c ys)
  starts-append c [] ys = sym (nothing-followed_by (trace_of_starts ρ D c ys))
  starts-append c (x ∷ xs) ys =
      ap (followed_by (counted_start ρ D c x).trace) (starts-append c xs ys) ∙ sym (followed_by-assoc (counted_start ρ D c x).trace (trace_of_starts ρ D c xs) (trace_of_starts ρ D c ys))
