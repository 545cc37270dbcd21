-- Rows of conditions on the image of one place.
use Rattle.std.specs.Prelude.{◌≡◌, ℕ, ◌<◌, ◌≤◌, Bool, true, List}
use Rattle.std.specs.List.{list_all}
use Rattle.map_search.specs.declared.rows.Condition.{Condition}

-- the number meets each of the conditions
abbrev pub meets_all : (Condition → ℕ → Bool) → List Condition → ℕ → Bool
meets_all meets row t = list_all (λ c. meets c t) row

-- no number that meets all the conditions was passed over, and where it stays, it meets them all
pub record IsPassed (bound : ℕ) (meets : Condition → ℕ → Bool) (row : List Condition) (from at : ℕ) : Type 0 where
  pub behind : from ≤ at
  pub within : at < bound
  pub least : (s : ℕ) → from ≤ s → s < bound → meets_all meets row s ≡ true → at ≤ s
  pub stays : at ≡ from → meets_all meets row from ≡ true
