-- The lines of a text, by which a fault is told. A line ends at LF, at CR LF, or at a CR that no LF follows, in strings
-- and comments too.
use Rattle.std.specs.Prelude.{ℕ, suc, Bool, false, not, ◌&&◌, ◌||◌, [], ◌∷◌, ◌==◌, take, if◌then◌else◌}
use Rattle.rdf_terms.specs.Lists.{Text}

abbrev pub begins_with_lf : Text → Bool
begins_with_lf [] = false
begins_with_lf (c ∷ cs) = c == 10

-- how many line ends a text has; 10 is LF and 13 is CR, and a CR before an LF belongs to the line end of that LF
abbrev pub line_ends : Text → ℕ
line_ends [] = 0
line_ends (c ∷ cs) =
    if c == 10 then suc (line_ends cs)
    else if c == 13 then (if begins_with_lf cs then line_ends cs else suc (line_ends cs))
    else line_ends cs

-- the line of what begins at the place, counted from 1: one more than the line ends before it
unfoldable pub line_at : Text → ℕ → ℕ
line_at text place = suc (line_ends (take place text))

-- a CR ends a line, and so does an LF that no CR stands before
abbrev pub ends_line : Bool → ℕ → Bool
ends_line after_cr c = c == 13 || (c == 10 && not after_cr)
