-- Pairs of a node and the node that two maps, one after the other, take it to.
use Rattle.std.specs.Prelude.{◌≡◌, ℕ, ◌<◌, List, length, All}
use Rattle.rdf_terms.specs.Vocabulary.{Document}
use Rattle.rdf_terms.specs.declared.term.Term.{Term}
use Rattle.rdf_terms.specs.declared.term.Term.TheVariants.{Blank}
use Rattle.graph_model.specs.Graphs.{composed}
use Rattle.entail.specs.Answers.{map_by}

abbrev pub IsNode : Term → Type 0
IsNode t = (k : ℕ) × (t ≡ Blank k)

-- for each of so many nodes the number of a term of d
pub record IsMapTo (d : Document) (nodes : ℕ) (numbers : List ℕ) : Type 0 where
  pub count : length numbers ≡ nodes
  pub in_range : All (λ t. t < length d.terms) numbers

-- where the first map and then the second take a node
abbrev pub taken : Document → List ℕ → List ℕ → ℕ → Term
taken d images onward n = composed (map_by d.terms images) (map_by d.terms onward) n
