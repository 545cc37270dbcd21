-- What the Canonicalization Algorithm answers (RDF Dataset Canonicalization, section 4.4).
use Rattle.std.specs.Prelude.{◌≡◌, length, Option, MatchOption}
use Rattle.rdf_terms.specs.Dataset.{Dataset}
use Rattle.canon_model.specs.Hashing.{Hashing}
use Rattle.canon_model.specs.Allowed.{IsCanonicalList}
use Rattle.canon_model.specs.CountedRun.{counted_run}
use Rattle.canon_model.specs.Ties.{IsTie}
use Rattle.canon_model.specs.TieSymmetry.{IsCarried}
use Rattle.canon_model.specs.JoinedTies.{JoinedCount, IsFirstUnjoined, IsJoinedTie, IsSettled, ties_of_run}
use Rattle.canon_model.specs.Output.{IsOutputOf, IsOnlyOutput, units_of}
use Rattle.ndegree_hash.specs.Log.{tie_of}
use Rattle.ndegree_hash.specs.declared.tie.Tie.{Tie}
use Rattle.canon_core.specs.declared.canon.Canon.{Canon}

-- The first tie of the counted run that is not joined: its two lists are those of outcomes that the standard does not
-- tell apart, and no symmetry of the dataset that fixes the nodes issued before carries the one list to the other.
pub record IsUnsettledBy (ρ : Hashing) (D : Dataset) (t : Tie) : Type 0 where
  pub first : IsFirstUnjoined D (ties_of_run ρ D) (tie_of t)
  pub tie : IsTie ρ D (tie_of t)
  pub not_joined : ¬ (IsJoinedTie D (tie_of t))
  pub not_carried : ¬ (IsCarried D (tie_of t).canonical (tie_of t).passed (tie_of t).left (tie_of t).right)

-- there is no unjoined tie, or the tie is the first
abbrev pub IsFirstUnsettled : Hashing → Dataset → Option Tie → Type 0
IsFirstUnsettled ρ D found = MatchOption found (IsSettled ρ D) (IsUnsettledBy ρ D)

-- the form and the list of the counted run, what it counted, and its first tie that is not joined
pub record IsCanon (ρ : Hashing) (D : Dataset) (canon : Canon) : Type 0 where
  pub order_is : canon.order ≡ (counted_run ρ D).value
  pub order_allowed : IsCanonicalList ρ D canon.order
  pub bytes : IsOutputOf ρ D canon.bytes
  pub units : canon.units ≡ units_of ρ D
  pub ties : canon.ties ≡ length (ties_of_run ρ D)
  pub joined : JoinedCount D (ties_of_run ρ D) canon.joined
  pub unsettled : IsFirstUnsettled ρ D canon.unsettled
  pub only : IsSettled ρ D → IsOnlyOutput ρ D canon.bytes
