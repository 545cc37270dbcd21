-- All open calls: the frames that wait, the one that runs, and what was counted and logged.
use Rattle.std.specs.Prelude.{suc, ◌≡◌, ℕ, ◌+◌, ◌≤◌, false, List, [], ◌∷◌, ◌++◌, length, Option, Some, None}
use Rattle.rdf_terms.specs.Vocabulary.{Text, Dataset}
use Rattle.canon_model.specs.Groups.{groups}
use Rattle.canon_model.specs.Hashing.{Hashing}
use Rattle.canon_model.specs.CountedRun.{Counted, Outcome}
use Rattle.ndegree_hash.specs.declared.frame.Frame.{Frame}
use Rattle.ndegree_hash.specs.declared.at.At.{At}
use Rattle.related_hash.specs.Grouping.{AreGroups as AreBags}
use Rattle.ndegree_hash.specs.Log.{LoggedTies, LogsAll}
use Rattle.ndegree_hash.specs.KnownNodes.{IsKnown}
use Rattle.ndegree_hash.specs.OwedTies.{owed}
use Rattle.ndegree_hash.specs.FrameSteps.{Resumes}

-- each frame waits, and its part of the trail ends where the next frame's begins; the running frame's begins at m
abbrev pub first_mark : List Frame → ℕ → ℕ
first_mark [] m = m
first_mark (f ∷ frames) m = f.mark

abbrev pub AreStacked : List Frame → ℕ → Type 0
AreStacked [] m = Unit {0}
AreStacked (f ∷ frames) m =
    (f.mark ≤ f.next) × (f.next ≤ f.last) × (f.last ≤ first_mark frames m) × (f.on_trail ≡ false) × AreStacked frames m

-- a call of n was opened at the trail t
pub record IsOpened (ρ : Hashing) (D : Dataset) (c : List ℕ) (n : ℕ) (t : List ℕ) (f : Frame) : Type 0 where
  pub text : f.text.items ≡ []
  pub bags : AreBags (groups ρ D c t n).nodes (groups ρ D c t n).hashes f.groups
  pub mark : f.mark ≡ length t
  pub others : f.others.items ≡ []
  pub known : IsKnown D c t f

-- the innermost of the waiting frames was taken out and given the hash
pub record IsResumed (c t : List ℕ) (below : List Frame) (hash : Text) (rest : List Frame) (f : Frame)
    (to : At) : Type 0 where
  pub caller : Frame
  pub below_is : below ≡ rest ++ caller ∷ []
  pub resumes : Resumes c t caller hash f to
  pub owes : owed f to ≤ suc (length caller.others.items)
  pub known : (D : Dataset) → IsKnown D c t caller → IsKnown D c t f

abbrev pub IsLeft : List ℕ → List ℕ → List Frame → Text → List Frame → Frame → Option At → Type 0
IsLeft c t below hash rest f None = below ≡ []
IsLeft c t below hash rest f (Some to) = IsResumed c t below hash rest f to

-- the units that were spent, and the log
pub record Account : Type 0 where
  pub spent : ℕ
  pub log : LoggedTies

-- the call gave this hash and the trail u, and this is the account now
pub record IsFinished (D : Dataset) (whole : Counted Outcome) (before : Account) (hash : Text) (u : List ℕ)
    (now : Account) : Type 0 where
  pub hash_is : hash ≡ whole.value.text
  pub list_is : u ≡ whole.value.issuer
  pub units : now.spent ≡ before.spent + whole.trace.units
  pub ties : LogsAll D whole.trace.ties before.log now.log
