-- What the counted run of a call says of the call.
use Rattle.std.proofs.Common.{List, arith, length, subst, sym, ℕ, ◌+◌, ◌≡◌}
use Rattle.rdf_terms.proofs.Common.{Dataset, IsValid, Text}
use Rattle.canon_model.specs.CountedRun.{counted_call}
use Rattle.canon_model.specs.Issuer.{IsValidCall}
use Rattle.canon_model.specs.Hashing.{Hashing}
use Rattle.canon_model.specs.Outcome.{HashNDegreeQuads}
use Rattle.canon_model.proofs.Recursion.{outcomes_are_valid}
use Rattle.canon_model.proofs.Totality.{counted_call_is_outcome}
use Rattle.canon_model.proofs.Uniqueness.{unique_up_to_symmetry}
use Rattle.ndegree_hash.specs.Call.{IsCallResult, IsOnlyOutcome, LogsTiesOfCall}
use Rattle.ndegree_hash.specs.OpenCalls.{Account, IsFinished}
use Rattle.canon_model.specs.JoinedTies.{JoinedCount}
use Rattle.ndegree_hash.specs.Log.{LoggedTies}
use Rattle.ndegree_hash.proofs.Logging.{joined-all}

module _ (ρ : Hashing) (D : Dataset) (c : List ℕ) (n : ℕ) (i : List ℕ) where
  pub finished-result : (before now : Account) (hash : Text) (j : List ℕ) → IsValid D → IsValidCall D c n i → IsFinished D (counted_call ρ D c n i) before hash j now → IsCallResult ρ D c n i hash j
  finished-result before now hash j valid v f =
      let text : HashNDegreeQuads ρ D c n i hash (counted_call ρ D c n i).value.issuer = subst (λ h. HashNDegreeQuads ρ D c n i h (counted_call ρ D c n i).value.issuer) (sym f.hash_is)
      (counted_call_is_outcome ρ D c n i valid v) in
      let outcome : HashNDegreeQuads ρ D c n i hash j = subst (λ k. HashNDegreeQuads ρ D c n i hash k) (sym f.list_is) text in
      record {
        outcome = outcome;
        valid = (outcomes_are_valid ρ D c n i valid hash j outcome).valid;
        hash_is = f.hash_is;
        list_is = f.list_is;
      }

  -- all ties that were logged are joined, so there is one outcome
  pub only-outcome : (old new : LoggedTies) → LogsTiesOfCall ρ D c n i old new → new.total + old.joined ≡ old.total + new.joined → IsOnlyOutcome ρ D c n i
  only-outcome old new l e =
      let ties = (counted_call ρ D c n i).trace.ties in
      let all : l.joined ≡ length ties = let a = l.total in let b = l.joined_is in omega arith in
      unique_up_to_symmetry ρ D c n i (joined-all D ties (subst (λ k. JoinedCount D ties k) all l.count))
