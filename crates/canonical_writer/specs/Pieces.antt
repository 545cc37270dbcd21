-- A text as pieces that lie one after the other.
use Rattle.std.specs.Prelude.{ℕ, List, [], ◌∷◌, take, drop}
use Rattle.rdf_terms.specs.Lists.{Text}

-- the pieces of these lengths, from the start of the text
abbrev pub pieces : Text → List ℕ → List Text
pieces text [] = []
pieces text (n ∷ ns) = take n text ∷ pieces (drop n text) ns
