-- Which bytes of a string are written by an escape.
use Rattle.std.specs.Prelude.{ℕ, Bool, ◌||◌, ◌==◌, nat_lt}

-- the control characters, `"` and `\`
abbrev pub is_escaped : ℕ → Bool
is_escaped c = nat_lt c 32 || (c == 34 || (c == 92 || c == 127))
