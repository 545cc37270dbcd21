-- A number for each term, which says the node that the term is.
use Rattle.std.specs.Prelude.{ℕ, ◌<◌, ◌==◌, if◌then◌else◌, List, Option, Some, None}
use Rattle.rdf_terms.specs.Lists.{In}
use Rattle.rdf_terms.specs.declared.term.Term.{Term}
use Rattle.rdf_terms.specs.declared.term.Term.TheVariants.{Iri, Blank, Literal}
use Rattle.dataset_index.specs.declared.term_nodes.TheConstants.{NO_NODE}

-- the number that is held for a term
abbrev pub held_for : Term → ℕ
held_for (Iri t) = NO_NODE
held_for (Blank n) = n
held_for (Literal l) = NO_NODE

-- the node that a held number says
abbrev pub node_held : ℕ → Option ℕ
node_held held = if held == NO_NODE then None else Some held

-- no node has the number that says that there is none
abbrev pub AreNodesBelow : List Term → Type 0
AreNodesBelow terms = (n : ℕ) → In (Blank n) terms → n < NO_NODE
