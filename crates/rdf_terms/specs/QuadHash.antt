-- What a quad feeds a hasher.
use Rattle.std.specs.Prelude.{ℕ, List, [], ◌∷◌, ◌++◌, Option, Some, None}
use Rattle.std.specs.Hash.{HashWrites, le_bytes}
use Rattle.rdf_terms.specs.declared.limits.TheConstants.{MOST_NUMBERS}
use Rattle.rdf_terms.specs.declared.term.Quad.{Quad}

-- the number of the graph name; the default graph has one that no term has
abbrev pub graph_number : Option ℕ → ℕ
graph_number None = MOST_NUMBERS
graph_number (Some n) = n

-- the four numbers, in four bytes each, the lowest first
abbrev pub number_bytes : Quad → List ℕ
number_bytes q = le_bytes 4 q.s ++ (le_bytes 4 q.p ++ (le_bytes 4 q.o ++ le_bytes 4 (graph_number q.g)))

-- one write
abbrev pub fed_quad : Quad → HashWrites
fed_quad q = number_bytes q ∷ []
