-- The lines of a document (RDF 1.1 N-Quads, section 4): a line ends before LF, before CR LF, before a CR that no LF
-- follows, or at the end of the document. The end of the document right behind a line end begins no further line.
use Rattle.std.specs.Prelude.{ℕ, Bool, false, List, [], ◌∷◌, ◌==◌, if◌then◌else◌}
use Rattle.rdf_terms.specs.Lists.{Text}

-- the byte stands in front of the first line
abbrev pub onto_first : ℕ → List Text → List Text
onto_first c [] = (c ∷ []) ∷ []
onto_first c (line ∷ lines) = (c ∷ line) ∷ lines

abbrev pub begins_with_lf : Text → Bool
begins_with_lf [] = false
begins_with_lf (c ∷ cs) = c == 10

-- 10 is LF and 13 is CR; a CR in front of an LF belongs to the line end of that LF
abbrev pub lines_of : Text → List Text
lines_of [] = []
lines_of (c ∷ cs) =
    if c == 10 then [] ∷ lines_of cs
    else if c == 13 then (if begins_with_lf cs then lines_of cs else [] ∷ lines_of cs)
    else onto_first c (lines_of cs)
