-- The counted run of small datasets, by computation. The hash stands in for SHA-256: it reads a text as a number to the base 257, modulo the prime 2^61 - 1, and writes it as one digit. Texts that
-- differ in these runs have different hashes, as the counts show: with two texts taken for one, groups would be larger and ties more.
use Rattle.std.proofs.Common.{List, None, Option, Some, [], codes, false, fold, length, refl, ℕ, ◌%◌, ◌*◌, ◌+◌, ◌∷◌, ◌≡◌}
use Rattle.rdf_terms.proofs.Common.{canonical_line, Dataset, Text, digits_from_last, numeral, Statement}
use Rattle.rdf_terms.specs.declared.term.Term.{Term}
use Rattle.rdf_terms.specs.declared.term.Term.TheVariants.{Blank, Iri}
use Rattle.canon_model.specs.CountedRun.{Tie, counted_call, counted_run}
use Rattle.canon_model.specs.FirstDegree.{hash_first_degree_quads}
use Rattle.canon_model.specs.Groups.{blank_node_list, related_entries, related_hashes}
use Rattle.canon_model.specs.Hashing.{Hashing}
use Rattle.canon_model.specs.RelatedHash.{hash_related_blank_node}

abbrev pub stand_in : Text → Text
stand_in text = fold (λ number byte. (number * 257 + byte) % 2305843009213693951) 1 text ∷ []

abbrev pub ρ : Hashing
ρ = record { hash = stand_in; once = false }

abbrev pub quad : ℕ → ℕ → Option Term → Statement
quad x y g = record { subject = Blank x; predicate = Iri (codes "http://e/p"); object = Blank y; graph_name = g }

abbrev pub of : ℕ → List Statement → Dataset
of nodes quads = record { nodes = nodes; statements = quads }

-- units, and the number of ties
abbrev counts : Dataset → ℕ × ℕ
counts D = ((counted_run ρ D).trace.units, length (counted_run ρ D).trace.ties)

-- two nodes that point at each other
two_nodes : counts (of 2 (quad 0 1 None ∷ quad 1 0 None ∷ [])) ≡ (12, 1)
unfolding hash_first_degree_quads canonical_line numeral digits_from_last related_entries related_hashes blank_node_list hash_related_blank_node counted_call
two_nodes = refl

-- the same in two graphs
two_graphs : counts (of 2 (quad 0 1 (Some (Iri (codes "http://e/g1"))) ∷ quad 0 1 (Some (Iri (codes "http://e/g2"))) ∷ quad 1 0 (Some (Iri (codes "http://e/g1"))) ∷ quad 1 0
    (Some (Iri (codes "http://e/g2"))) ∷ [])) ≡ (12, 1)
unfolding hash_first_degree_quads canonical_line numeral digits_from_last related_entries related_hashes blank_node_list hash_related_blank_node counted_call
two_graphs = refl

-- two nodes that point at themselves
two_loops : counts (of 2 (quad 0 0 None ∷ quad 1 1 None ∷ [])) ≡ (2, 1)
unfolding hash_first_degree_quads canonical_line numeral digits_from_last related_entries related_hashes blank_node_list hash_related_blank_node counted_call
two_loops = refl

-- equal lines are kept: the node with two quads and the node with one are each alone under their hash, and of the three nodes that they point at the first two are tied
equal_lines : counts (of 5 (quad 0 1 None ∷ quad 0 2 None ∷ quad 3 4 None ∷ [])) ≡ (6, 1)
unfolding hash_first_degree_quads canonical_line numeral digits_from_last related_entries related_hashes blank_node_list hash_related_blank_node counted_call
equal_lines = refl

ring_of_six : counts (of 6 (quad 0 1 None ∷ quad 1 2 None ∷ quad 2 3 None ∷ quad 3 4 None ∷ quad 4 5 None ∷ quad 5 0 None ∷ [])) ≡ (108, 5)
unfolding hash_first_degree_quads canonical_line numeral digits_from_last related_entries related_hashes blank_node_list hash_related_blank_node counted_call
ring_of_six = refl

two_rings_of_three : counts (of 6 (quad 0 1 None ∷ quad 1 2 None ∷ quad 2 0 None ∷ quad 3 4 None ∷ quad 4 5 None ∷ quad 5 3 None ∷ [])) ≡ (54, 5)
unfolding hash_first_degree_quads canonical_line numeral digits_from_last related_entries related_hashes blank_node_list hash_related_blank_node counted_call
two_rings_of_three = refl

-- four quads, no two alike in two places, over two subjects, two objects and two graph names
abbrev pub four_quads : Dataset
four_quads = of 6 (quad 0 2 (Some (Blank 4)) ∷ quad 0 3 (Some (Blank 5)) ∷ quad 1 2 (Some (Blank 5)) ∷ quad 1 3 (Some (Blank 4)) ∷ [])

four : counts four_quads ≡ (150, 7)
unfolding hash_first_degree_quads canonical_line numeral digits_from_last related_entries related_hashes blank_node_list hash_related_blank_node counted_call
four = refl

-- the lists of the first tie differ in two neighbouring places, which hold the two subjects
abbrev first_lists : List Tie → List ℕ × List ℕ
first_lists [] = ([], [])
first_lists (t ∷ ties) = (t.left, t.right)

four_first_tie : first_lists (counted_run ρ four_quads).trace.ties ≡ (2 ∷ 4 ∷ 5 ∷ 3 ∷ 0 ∷ 1 ∷ [], 2 ∷ 4 ∷ 5 ∷ 3 ∷ 1 ∷ 0 ∷ [])
unfolding hash_first_degree_quads canonical_line numeral digits_from_last related_entries related_hashes blank_node_list hash_related_blank_node counted_call
four_first_tie = refl

-- each of five nodes points at each other
complete_graph_of_five : counts (of 5 (quad 0 1 None ∷ quad 0 2 None ∷ quad 0 3 None ∷ quad 0 4 None ∷ quad 1 0 None ∷ quad 1 2 None ∷ quad 1 3 None ∷ quad 1 4 None ∷ quad 2 0 None ∷ quad 2 1 None
    ∷ quad 2 3 None ∷ quad 2 4 None ∷ quad 3 0 None ∷ quad 3 1 None ∷ quad 3 2 None ∷ quad 3 4 None ∷ quad 4 0 None ∷ quad 4 1 None ∷ quad 4 2 None ∷ quad 4 3 None ∷ [])) ≡ (4565, 119)
unfolding hash_first_degree_quads canonical_line numeral digits_from_last related_entries related_hashes blank_node_list hash_related_blank_node counted_call
complete_graph_of_five = refl
