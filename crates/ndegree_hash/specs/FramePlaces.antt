-- The places of a frame: what is true of its numbers there, and how steps come to an end.
use Rattle.std.specs.Prelude.{◌≡◌, ℕ, ◌≤◌, false, List, length}
use Rattle.rdf_terms.specs.Lists.{In}
use Rattle.ndegree_hash.specs.declared.frame.Frame.{Frame}
use Rattle.ndegree_hash.specs.declared.at.At.{At}
use Rattle.ndegree_hash.specs.declared.at.At.TheVariants.{Group, Begin, Recursion, Ended, Between, Close, Call, Return}

pub record IsInGroup (t : List ℕ) (f : Frame) : Type 0 where
  pub mark : f.mark ≤ length t
  pub aside : f.on_trail ≡ false

-- the rest of the recursion list stands on the trail, behind the mark
pub record IsInRecursion (t : List ℕ) (f : Frame) : Type 0 where
  pub next : f.mark ≤ f.next
  pub last : f.next ≤ f.last
  pub within : f.last ≤ length t
  pub aside : f.on_trail ≡ false

abbrev pub IsAt : List ℕ → Frame → At → Type 0
IsAt t f Begin = (f.mark ≡ length t) × (f.on_trail ≡ false)
IsAt t f Recursion = IsInRecursion t f
IsAt t f Ended = IsInGroup t f
IsAt t f (Call n) = IsInRecursion t f × In n t
IsAt t f at = f.mark ≤ length t

-- without a unit spent a step goes to a place of a lower rank
abbrev pub rank : At → ℕ
rank Recursion = 5
rank Ended = 4
rank Between = 3
rank Close = 2
rank Group = 1
rank at = 0

-- a place from which a step spends no unit, within one frame
abbrev pub IsWithin : At → Type 0
IsWithin Begin = ⊥
IsWithin (Call n) = ⊥
IsWithin Return = ⊥
IsWithin at = Unit {0}
