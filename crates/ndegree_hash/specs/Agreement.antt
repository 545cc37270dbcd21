-- How far two texts are known to agree.
use Rattle.std.specs.Prelude.{◌≡◌, ℕ, ◌≤◌, List, take, length}

pub record Agree (k : ℕ) (a b : List ℕ) : Type 0 where
  pub within_left : k ≤ length a
  pub within_right : k ≤ length b
  pub same : take k a ≡ take k b
