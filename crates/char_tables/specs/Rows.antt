-- Tables of code points: rows, each from its first code point to its last.
use Rattle.std.specs.Prelude.{ℕ, Bool, true, false, ◌&&◌, ◌||◌, nat_lt, nat_le, List, [], ◌∷◌}

abbrev pub Rows : Type 0
Rows = List (ℕ × ℕ)

-- the row holds the code point
abbrev pub row_holds : ℕ × ℕ → ℕ → Bool
row_holds row c = nat_le row.0 c && nat_le c row.1

-- some row holds the code point
abbrev pub is_in : Rows → ℕ → Bool
is_in [] c = false
is_in (row ∷ rows) c = row_holds row c || is_in rows c

-- the row ends below the first of the rows behind it
abbrev pub ends_below : ℕ × ℕ → Rows → Bool
ends_below row [] = true
ends_below row (next ∷ rows) = nat_lt row.1 next.0

-- in each row the first number is at most the last, and each row ends below the next row's beginning
abbrev pub are_in_order : Rows → Bool
are_in_order [] = true
are_in_order (row ∷ rows) = nat_le row.0 row.1 && (ends_below row rows && are_in_order rows)
