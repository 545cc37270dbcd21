-- What is written of a graph that is leaned, and why nothing is: the lean graph, the map onto it, and the limit.
use Rattle.std.specs.Prelude.{◌≡◌, ℕ, Bool, true, false, List, ◌++◌, map, flat_map, Some, codes}
use Rattle.rdf_terms.specs.Vocabulary.{Text, In, numbers_below, numeral, Statement, Dataset, IsUsed, statement, canonical_term, canonical_nquads}
use Rattle.rdf_terms.specs.declared.term.Quad.{Quad}
use Rattle.rdf_terms.specs.declared.term.Term.{Term}
use Rattle.rdf_terms.specs.declared.term.Term.TheVariants.{Blank}
use Rattle.graph_model.specs.Counts.{IsPastSearch, IsWithinSearch}
use Rattle.graph_model.specs.Graphs.{IsGraph, IsEndomorphism, IsImage, IsLean}

-- node k is `e` and k
abbrev pub node_name : ℕ → Text
node_name n = codes "e" ++ numeral n

-- the map is an endomorphism of the graph, and what it makes of the graph is lean (RDF 1.1 Semantics, section 4); each
-- node of that lies in a set that was searched within the limit
pub record IsLeanImage (G : List Statement) (limit : ℕ) (μ : ℕ → Term) (image : List Statement) : Type 0 where
  pub graph : IsGraph G
  pub endomorphism : IsEndomorphism μ G
  pub is_image : IsImage μ G image
  pub lean : IsLean image
  pub searched : (n : ℕ) → IsUsed image n → IsWithinSearch image limit n

-- ---- the lean graph

-- the canonical text of a lean image of the graph, whose nodes keep their numbers
pub record IsLeanText (D : Dataset) (limit : ℕ) (text : Text) : Type 0 where
  pub μ : ℕ → Term
  pub image : List Statement
  pub is_lean_image : IsLeanImage D.statements limit μ image
  pub text_is : text ≡ canonical_nquads (record { nodes = D.nodes; statements = image }) node_name

-- ---- the map

-- the node's name, a space, and the term as it stands in a canonical line
abbrev pub line_of : ℕ → Term → Text
line_of n term = canonical_term node_name (Blank n) ++ (codes " " ++ (canonical_term node_name term ++ codes "\n"))

abbrev pub mapped_line : (ℕ → Term) → ℕ → Text
mapped_line μ n = line_of n (μ n)

-- a line for each node in order, of a map onto a lean image of the graph
pub record IsLeanMapText (D : Dataset) (limit : ℕ) (text : Text) : Type 0 where
  pub μ : ℕ → Term
  pub image : List Statement
  pub is_lean_image : IsLeanImage D.statements limit μ image
  pub text_is : text ≡ flat_map (mapped_line μ) (numbers_below D.nodes)

-- ---- the text of the command

-- the map where it is asked for, and else the graph
abbrev pub IsLeaning : Bool → ℕ → Dataset → Text → Type 0
IsLeaning true limit D text = IsLeanMapText D limit text
IsLeaning false limit D text = IsLeanText D limit text

-- ---- why nothing is written

-- some quad has a graph name
pub record HasGraphName (statements : List Statement) : Type 0 where
  pub quad : Statement
  pub there : In quad statements
  pub name : Term
  pub named : quad.graph_name ≡ Some name

-- Under some numbering of the terms, an image of the graph has a component with more partial maps than the limit.
pub record IsPastMaps (D : Dataset) (limit : ℕ) (image : List Quad) : Type 0 where
  pub graph : IsGraph D.statements
  pub terms : List Term
  pub past : IsPastSearch D.statements (map (statement terms) image) limit
