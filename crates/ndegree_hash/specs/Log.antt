-- The log of ties.
use Rattle.std.specs.Prelude.{◌≡◌, ◌↔◌, ℕ, suc, ◌+◌, ◌≤◌, ◌⊎◌, List, [], ◌∷◌, ◌++◌, take, length, Option, Some, None, MatchOption}
use Rattle.rdf_terms.specs.Dataset.{Dataset}
use Rattle.canon_model.specs.CountedRun.{Tie}
use Rattle.canon_model.specs.JoinedTies.{IsFirstUnjoined, IsJoinedTie, JoinedCount}
use Rattle.canon_model.specs.Ties.{AreJoined}
use Rattle.ndegree_hash.specs.declared.tie.Tie.{Tie as CarriedTie}

-- a tie as code carries it; the list passed in is what both lists begin with
abbrev pub tie_of : CarriedTie → Tie
tie_of t = record { canonical = t.canon; passed = take t.passed t.left; left = t.left; right = t.right }

-- what a log knows: how many ties, how many of them are joined, and the first that is not
pub record LoggedTies : Type 0 where
  pub total : ℕ
  pub joined : ℕ
  pub unsettled : Option CarriedTie

-- there is an unjoined tie exactly where not all are joined
pub record IsLog (log : LoggedTies) : Type 0 where
  pub within : log.joined ≤ log.total
  pub none : (log.unsettled ≡ None) ↔ (log.total ≡ log.joined)

-- ---- one tie is logged

abbrev pub first_of : Option CarriedTie → CarriedTie → Option CarriedTie
first_of None t = Some t
first_of (Some first) t = Some first

-- a joined tie raises both counts
pub record LogsJoined (D : Dataset) (t : CarriedTie) (old new : LoggedTies) : Type 0 where
  pub is : IsJoinedTie D (tie_of t)
  pub joined : new.joined ≡ suc old.joined
  pub unsettled : new.unsettled ≡ old.unsettled

-- another one raises the total alone, and is kept where it is the first
pub record LogsUnjoined (D : Dataset) (t : CarriedTie) (old new : LoggedTies) : Type 0 where
  pub is : ¬ (IsJoinedTie D (tie_of t))
  pub joined : new.joined ≡ old.joined
  pub unsettled : new.unsettled ≡ first_of old.unsettled t

pub record Logs (D : Dataset) (t : CarriedTie) (old new : LoggedTies) : Type 0 where
  pub total : new.total ≡ suc old.total
  pub judged : LogsJoined D t old new ⊎ LogsUnjoined D t old new

-- ---- ties are logged one after the other

pub record LogsTie (D : Dataset) (t : Tie) (old new : LoggedTies) : Type 0 where
  pub carried : CarriedTie
  pub is : tie_of carried ≡ t
  pub logs : Logs D carried old new

abbrev pub LogsInTurn : Dataset → List Tie → LoggedTies → LoggedTies → Type 0
LogsInTurn D [] old new = new ≡ old
LogsInTurn D (t ∷ ties) old new = (next : LoggedTies) × LogsTie D t old next × LogsInTurn D ties next new

-- ---- what a log knows then

-- the first of these ties that is not joined, or none
abbrev pub IsFirstOf : Dataset → List Tie → Option CarriedTie → Type 0
IsFirstOf D ties found = MatchOption found (AreJoined D ties) (λ t. IsFirstUnjoined D ties (tie_of t))

-- all these ties were logged
pub record LogsAll (D : Dataset) (ties : List Tie) (old new : LoggedTies) : Type 0 where
  pub total : new.total ≡ old.total + length ties
  pub joined : ℕ
  pub count : JoinedCount D ties joined
  pub joined_is : new.joined ≡ old.joined + joined
  pub unsettled : MatchOption old.unsettled (IsFirstOf D ties new.unsettled) (λ t. new.unsettled ≡ Some t)

-- ---- where a call stops before its end

-- the first of these ties were logged, and none of the others
pub record LogsFront (Logged : List Tie → LoggedTies → LoggedTies → Type 0) (ties : List Tie)
    (old new : LoggedTies) : Type 0 where
  pub front : List Tie
  pub others : List Tie
  pub ties_are : ties ≡ front ++ others
  pub logs : Logged front old new
