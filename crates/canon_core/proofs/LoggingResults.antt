-- The ties of results are logged one after the other.
use Rattle.std.proofs.Common.{◌≡◌, ℕ, suc, ◌+◌, ◌-◌, ◌<◌, ◌≤◌, true, false, cond, List, [], ◌∷◌, ◌++◌, length, take, drop, get_or, drop-cons, append_assoc, add-one, inl, refl, sym, ap, ◌∙◌, subst, arith}
use Rattle.std.specs.Str.{bytes_eq}
use Rattle.rdf_terms.proofs.Common.{Dataset, In, In-append_right}
use Rattle.canonical_writer.proofs.NumberOrder.{slice_from}
use Rattle.canon_model.specs.Allowed.{HashPathResult}
use Rattle.canon_model.specs.CountedRun.{Tie, ties_of_results, ties_with}
use Rattle.ndegree_hash.specs.Log.{LoggedTies, Logs, LogsInTurn}
use Rattle.tie_witness.specs.Witness.{MayBeChecked}
use Rattle.ndegree_hash.proofs.Logging.{logs-last}
use Rattle.ndegree_hash.specs.OwedTies.{MayBeLogged}

-- those that were logged, followed by those that are left, are all
pub record IsLoggedSoFar (D : Dataset) (whole left : List Tie) (old now : LoggedTies) : Type 0 where
  pub logged : List Tie
  pub logs : LogsInTurn D logged old now
  pub all : logged ++ left ≡ whole

abbrev pub tie_between : List ℕ → HashPathResult → HashPathResult → Tie
tie_between c first r = record { canonical = c; passed = []; left = first.issuer; right = r.issuer }

module _ (D : Dataset) (whole : List Tie) (c : List ℕ) where
  -- the next result has the hash of the first, or begins another one
  left-same : (first r : HashPathResult) (rest results : List HashPathResult) → results ≡ r ∷ rest → bytes_eq first.hash r.hash ≡ true
      → ties_with c first results ≡ tie_between c first r ∷ ties_with c first rest
  left-same first r rest results e h = ap (ties_with c first) e ∙ ap (λ t. cond t (tie_between c first r ∷ ties_with c first rest) (ties_with c r rest)) h

  left-other : (first r : HashPathResult) (rest results : List HashPathResult) → results ≡ r ∷ rest → bytes_eq first.hash r.hash ≡ false → ties_with c first results ≡ ties_with c r rest
  left-other first r rest results e h = ap (ties_with c first) e ∙ ap (λ t. cond t (tie_between c first r ∷ ties_with c first rest) (ties_with c r rest)) h

  pub may-log : (first r : HashPathResult) (rest results : List HashPathResult) (old now : LoggedTies) → MayBeLogged D whole → results ≡ r ∷ rest → bytes_eq first.hash r.hash ≡ true
      → IsLoggedSoFar D whole (ties_with c first results) old now
      → MayBeChecked D c 0 first.issuer r.issuer
  may-log first r rest results old now may e h s =
      let there : In (tie_between c first r) whole = subst (λ ts. In (tie_between c first r) ts) s.all
      (In-append_right s.logged (ties_with c first results) (tie_between c first r) (subst (λ ts. In (tie_between c first r) ts) (sym (left-same first r rest results e h)) (inl refl))) in
      record { within_left = omega arith; within_right = omega arith; exchanged = may (tie_between c first r) there }

  pub logged-same : (first r : HashPathResult) (rest results : List HashPathResult) (old now new : LoggedTies) → results ≡ r ∷ rest → bytes_eq first.hash r.hash ≡ true
      → Logs D (record { canon = c; passed = 0; left = first.issuer; right = r.issuer }) now new → IsLoggedSoFar D whole (ties_with c first results) old now
      → IsLoggedSoFar D whole (ties_with c first rest) old new
  logged-same first r rest results old now new e h l s = record {
    logged = s.logged ++ tie_between c first r ∷ [];
    logs = logs-last D s.logged (tie_between c first r) old now new s.logs (record { carried = record { canon = c; passed = 0; left = first.issuer; right = r.issuer }; is = refl; logs = l });
    all = append_assoc s.logged (tie_between c first r ∷ []) (ties_with c first rest) ∙ ap (λ ts. s.logged ++ ts) (sym (left-same first r rest results e h)) ∙ s.all;
  }

  pub logged-other : (first r : HashPathResult) (rest results : List HashPathResult) (old now : LoggedTies) → results ≡ r ∷ rest → bytes_eq first.hash r.hash ≡ false
      → IsLoggedSoFar D whole (ties_with c first results) old now
      → IsLoggedSoFar D whole (ties_with c r rest) old now
  logged-other first r rest results old now e h s = record { logged = s.logged; logs = s.logs; all = ap (λ ts. s.logged ++ ts) (sym (left-other first r rest results e h)) ∙ s.all }

-- the results from a place on, where the result at the place is known
pub from_place : (results : List HashPathResult) (i : ℕ) (r : HashPathResult) → i < length results → r ≡ get_or results i r → drop i results ≡ r ∷ drop (i + 1) results
from_place results i r l e = drop-cons results i r l ∙ ap (λ q. q ∷ drop (suc i) results) (sym e) ∙ ap (λ k. r ∷ drop k results) (sym (add-one i))

-- the results are the first one and those behind it
pub ties-first : (c : List ℕ) (results : List HashPathResult) (r : HashPathResult) → 1 ≤ length results → r ≡ get_or results 0 r
    → ties_of_results c results ≡ ties_with c r (take (length results - 1) (drop 1 results))
ties-first c [] r l e = absurd (omega arith)
ties-first c (q ∷ qs) r l e = ap (λ w. ties_with c w qs) (sym e) ∙ ap (ties_with c r) (sym (slice_from 1 (q ∷ qs)))
