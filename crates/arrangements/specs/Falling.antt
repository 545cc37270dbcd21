-- Places in an arrangement from which its successor is made.
use Rattle.std.specs.Prelude.{ℕ, ◌+◌, ◌<◌, ◌≤◌, List, length, slice_index}

-- from the place on, no node is below the one after it
abbrev pub FallsFrom : List ℕ → ℕ → Type 0
FallsFrom xs from = (k : ℕ) → from ≤ k → k + 1 < length xs → slice_index xs (k + 1) ≤ slice_index xs k

-- the last place whose node is below the next node
pub record IsLastRise (xs : List ℕ) (at : ℕ) : Type 0 where
  pub within : at + 1 < length xs
  pub rises : slice_index xs at < slice_index xs (at + 1)
  pub falls : FallsFrom xs (at + 1)

-- the last place behind `at` whose node is above the node at `at`
pub record IsLastAbove (xs : List ℕ) (at other : ℕ) : Type 0 where
  pub behind : at < other
  pub within : other < length xs
  pub above : slice_index xs at < slice_index xs other
  pub rest : (k : ℕ) → other < k → k < length xs → slice_index xs k ≤ slice_index xs at
