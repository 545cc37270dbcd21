-- The first-degree hashes of a document's nodes (RDF Dataset Canonicalization, section 4.6), and the lines that are
-- hashed.
use Rattle.std.specs.Prelude.{ℕ, List, [], map, length, Option, Some, None, slice_get}
use Rattle.rdf_terms.specs.Vocabulary.{Text, numbers_below, Statement, statements_of, Document, dataset, statements, canonical_line}
use Rattle.canon_model.specs.Hashing.{Hashing}
use Rattle.canon_model.specs.FirstDegree.{first_degree_names, hash_first_degree_quads}

-- the hash of each node, by node
abbrev pub first_degree_hashes : Hashing → Document → List Text
first_degree_hashes ρ d = map (hash_first_degree_quads ρ (dataset d)) (numbers_below (length d.labels))

-- the lines of the quads that mention the node, with the node as `_:a` and each other blank node as `_:z`
abbrev pub first_degree_lines : Document → ℕ → List Text
first_degree_lines d n = map (canonical_line (first_degree_names n)) (statements_of (dataset d) n)

-- ---- the lines by the places of their quads

abbrev pub line_of : ℕ → Option Statement → Text
line_of n None = []
line_of n (Some st) = canonical_line (first_degree_names n) st

abbrev pub line_at : Document → ℕ → ℕ → Text
line_at d n place = line_of n (slice_get (statements d) place)
