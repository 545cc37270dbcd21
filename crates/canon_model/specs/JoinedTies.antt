-- Which ties of a run are joined, and the first that is not.
use Rattle.std.specs.Prelude.{◌≡◌, ℕ, zero, suc, ◌⊎◌, List, [], ◌∷◌, ◌++◌}
use Rattle.rdf_terms.specs.Dataset.{Dataset}
use Rattle.canon_model.specs.Hashing.{Hashing}
use Rattle.canon_model.specs.CountedRun.{Tie, counted_run}
use Rattle.canon_model.specs.Ties.{IsJoined, AreJoined}

abbrev pub IsJoinedTie : Dataset → Tie → Type 0
IsJoinedTie D t = IsJoined D t.canonical t.left t.right

-- so many of the ties are joined
abbrev pub JoinedCount : Dataset → List Tie → ℕ → Type 0
JoinedCount D [] count = count ≡ 0
JoinedCount D (t ∷ ties) zero = (¬ (IsJoinedTie D t)) × JoinedCount D ties zero
JoinedCount D (t ∷ ties) (suc count) =
    (IsJoinedTie D t × JoinedCount D ties count) ⊎ ((¬ (IsJoinedTie D t)) × JoinedCount D ties (suc count))

-- the tie is the first of the list that is not joined
pub record IsFirstUnjoined (D : Dataset) (ties : List Tie) (t : Tie) : Type 0 where
  pub before : List Tie
  pub behind : List Tie
  pub ties_are : ties ≡ before ++ t ∷ behind
  pub joined_before : AreJoined D before
  pub not_joined : ¬ (IsJoinedTie D t)

-- ---- the counted run of a dataset

-- its ties, in the order in which they are logged
abbrev pub ties_of_run : Hashing → Dataset → List Tie
ties_of_run ρ D = (counted_run ρ D).trace.ties

-- each of them is joined
abbrev pub IsSettled : Hashing → Dataset → Type 0
IsSettled ρ D = AreJoined D (ties_of_run ρ D)
