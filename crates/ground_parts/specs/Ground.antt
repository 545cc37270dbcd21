-- Ground quads, which have no blank node (RDF 1.1 Semantics, section 4), and datasets that have the same quads but for
-- these.
use Rattle.std.specs.Prelude.{◌≡◌, Bool, true, false, ◌||◌, List, All, filter, Option, Some, None}
use Rattle.rdf_terms.specs.Vocabulary.{Permutes, Statement, Dataset}
use Rattle.rdf_terms.specs.declared.term.Term.{Term}
use Rattle.rdf_terms.specs.declared.term.Term.TheVariants.{Iri, Blank, Literal}

-- ---- quads

abbrev pub is_blank_node : Term → Bool
is_blank_node (Iri text) = false
is_blank_node (Blank n) = true
is_blank_node (Literal literal) = false

abbrev pub is_named_by_blank_node : Option Term → Bool
is_named_by_blank_node None = false
is_named_by_blank_node (Some term) = is_blank_node term

-- one of the quad's terms is a blank node
abbrev pub has_blank_node : Statement → Bool
has_blank_node st =
    is_blank_node st.subject
    || (is_blank_node st.predicate || (is_blank_node st.object || is_named_by_blank_node st.graph_name))

abbrev pub IsGroundQuad : Statement → Type 0
IsGroundQuad st = has_blank_node st ≡ false

-- ---- datasets

-- the quads that are not ground
abbrev pub quads_with_nodes : Dataset → List Statement
quads_with_nodes D = filter has_blank_node D.statements

abbrev pub without_ground_quads : Dataset → Dataset
without_ground_quads D = record { nodes = D.nodes; statements = quads_with_nodes D }

-- every quad is ground
abbrev pub IsGround : Dataset → Type 0
IsGround D = All IsGroundQuad D.statements

-- the datasets are the same but for ground quads, and but for the order of their lists
pub record HaveSameQuadsWithNodes (D E : Dataset) : Type 0 where
  pub nodes : E.nodes ≡ D.nodes
  pub statements : Permutes (quads_with_nodes D) (quads_with_nodes E)
