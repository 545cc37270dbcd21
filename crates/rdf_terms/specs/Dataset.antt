-- Datasets (RDF 1.1 Concepts, section 4): finite sets of quads over blank nodes that are numbered from 0.
use Rattle.std.specs.Prelude.{◌≡◌, ℕ, ◌<◌, Bool, true, false, ◌||◌, ◌==◌, List, All, filter, Option, Some, None}
use Rattle.rdf_terms.specs.Lists.{In, AreDistinct}
use Rattle.rdf_terms.specs.Terms.{Statement, IsValidStatement}
use Rattle.rdf_terms.specs.declared.term.Term.{Term}
use Rattle.rdf_terms.specs.declared.term.Term.TheVariants.{Iri, Blank, Literal}

-- the number of nodes and the quads, each once; the order of the list never matters
pub record Dataset : Type 0 where
  pub nodes : ℕ
  pub statements : List Statement

-- ---- which quads mention a node: as subject, object or graph name

abbrev pub is_node : ℕ → Term → Bool
is_node n (Iri t) = false
is_node n (Blank m) = m == n
is_node n (Literal l) = false

abbrev pub is_named_by : ℕ → Option Term → Bool
is_named_by n None = false
is_named_by n (Some t) = is_node n t

abbrev pub mentions : ℕ → Statement → Bool
mentions n st = is_node n st.subject || (is_node n st.object || is_named_by n st.graph_name)

abbrev pub statements_of : Dataset → ℕ → List Statement
statements_of D n = filter (mentions n) D.statements

-- ---- validity

-- some quad mentions the node
pub record IsUsed (statements : List Statement) (n : ℕ) : Type 0 where
  pub statement : Statement
  pub there : In statement statements
  pub mentioned : mentions n statement ≡ true

pub record IsValid (D : Dataset) : Type 0 where
  pub valid : All (IsValidStatement D.nodes) D.statements
  pub distinct : AreDistinct D.statements
  pub used : (n : ℕ) → n < D.nodes → IsUsed D.statements n
