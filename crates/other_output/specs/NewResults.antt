-- A first tie that is not joined, of two results of start nodes for which no identifier was issued yet.
use Rattle.std.specs.Prelude.{◌≡◌, ◌++◌, List, Some, true}
use Rattle.rdf_terms.specs.Vocabulary.{Text, In, is_before, Dataset, IsValid}
use Rattle.canon_model.specs.Hashing.{Hashing}
use Rattle.canon_model.specs.Allowed.{HashPathResult, issued_for_unique_hashes, unissued_nodes}
use Rattle.canon_model.specs.CountedRun.{Tie, counted_hashes, trace_of_starts}
use Rattle.canon_model.specs.JoinedTies.{IsFirstUnjoined, ties_of_run}
use Rattle.canon_model.specs.Output.{chosen_form}
use Rattle.canon_model.specs.TwoLists.{AreNewResults}
use Rattle.ndegree_hash.specs.Log.{tie_of}
use Rattle.ndegree_hash.specs.declared.tie.Tie.{Tie as CarriedTie}
use Rattle.canon_core.specs.declared.canon.Canon.{Canon}
use Rattle.canon_core.specs.Canonical.{IsCanon}
use Rattle.other_output.specs.Along.{IsFormAlong}
use Rattle.other_output.specs.Openness.{IsOpenness}
use Rattle.other_output.specs.declared.other.Openness.{Openness}
use Rattle.other_output.specs.declared.other.Openness.TheVariants.{NotKnown}

-- The first tie of the counted run that is not joined is one of two new results, the left one the first of its hash. It
-- is logged behind the ties of the classes before, and behind those of the calls of its class.
pub record IsFirstOfNewResults (ρ : Hashing) (D : Dataset) (t : Tie) : Type 0 where
  pub left : HashPathResult
  pub right : HashPathResult
  pub new : AreNewResults ρ D t.canonical left right
  pub left_is : t.left ≡ left.issuer
  pub right_is : t.right ≡ right.issuer
  pub left_first : (q : HashPathResult) → In q new.issued → is_before q.hash left.hash ≡ true
  pub unjoined : IsFirstUnjoined D (ties_of_run ρ D) t
  pub of_results : List Tie
  pub before_are : unjoined.before ≡ (counted_hashes ρ D new.before (issued_for_unique_hashes ρ D)).trace.ties
      ++ (trace_of_starts ρ D t.canonical (unissued_nodes ρ D t.canonical new.class)).ties ++ of_results

-- the form along such a tie is not that of the run
abbrev pub OtherFormAlongNewResults : Type 0
OtherFormAlongNewResults =
    (ρ : Hashing) (D : Dataset) → IsValid D → (t : Tie) → IsFirstOfNewResults ρ D t
    → (text : Text) → IsFormAlong ρ D t text → ¬ (chosen_form ρ D ≡ text)

-- so it is not answered that no other output is known
abbrev pub KnownAlongNewResults : Type 0
KnownAlongNewResults =
    (ρ : Hashing) (D : Dataset) (canon : Canon) → IsCanon ρ D canon
    → (t : CarriedTie) → canon.unsettled ≡ Some t → IsFirstOfNewResults ρ D (tie_of t)
    → (openness : Openness) → IsOpenness ρ D canon openness → ¬ (openness ≡ NotKnown)
