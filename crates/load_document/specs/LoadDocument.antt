-- The document of `load N`, by its lines, and that no reader of N-Quads may refuse it (RDF 1.1 N-Quads, section 4).
use Rattle.std.specs.Prelude.{◌≡◌, ℕ, ◌+◌, ◌/◌, ◌%◌, ◌++◌, codes}
use Rattle.std.specs.List.{flat_map}
use Rattle.rdf_terms.specs.Vocabulary.{Text, numbers_below, numeral}
use Rattle.nquads_reader.specs.Document.{IsCauseOf}
use Rattle.nquads_reader.specs.declared.fault.ReadFault.{ReadFault}
use Rattle.nquads_reader.specs.declared.fault.ReadFault.TheVariants.{NoMemory}

-- node i of the ring has the number i
abbrev pub number_line : ℕ → Text
number_line i = codes "_:n" ++ (numeral i ++ (codes " <http://e/n> \"" ++ (numeral i ++ codes "\" .\n")))

-- a node points at another: what stands before their numbers, and the numbers
abbrev pub edge_line : Text → ℕ → Text → ℕ → Text
edge_line front i middle j = front ++ (numeral i ++ (middle ++ (numeral j ++ codes " .\n")))

-- a node of the ring of n: its number, and the next node, which for the last one is the first
abbrev pub ring_lines : ℕ → ℕ → Text
ring_lines n i = number_line i ++ edge_line (codes "_:n") i (codes " <http://e/next> _:n") ((i + 1) % n)

-- two nodes that point at each other
abbrev pub pair_lines : ℕ → Text
pair_lines j =
    edge_line (codes "_:a") j (codes " <http://e/pair> _:b") j
    ++ edge_line (codes "_:b") j (codes " <http://e/pair> _:a") j

-- a ring of n nodes, and a pair for each hundred of them
unfoldable pub load_document : ℕ → Text
load_document n = flat_map (ring_lines n) (numbers_below n) ++ flat_map pair_lines (numbers_below (n / 100))

-- it has no fault: each line is in the grammar, each IRI has a scheme, and there are not too many quads
abbrev pub IsReadable : Text → Type 0
IsReadable bytes = (fault : ReadFault) → IsCauseOf bytes fault → fault ≡ NoMemory
