-- Relabelling of blank nodes, isomorphism of datasets (RDF 1.1 Concepts, section 4.1) and symmetries.
use Rattle.std.specs.Prelude.{◌≡◌, ℕ, ◌<◌, map, Option, Some, None}
use Rattle.rdf_terms.specs.Lists.{Permutes}
use Rattle.rdf_terms.specs.Terms.{Statement}
use Rattle.rdf_terms.specs.Dataset.{Dataset}
use Rattle.rdf_terms.specs.declared.term.Term.{Term}
use Rattle.rdf_terms.specs.declared.term.Term.TheVariants.{Iri, Blank, Literal}

-- a bijection of the blank nodes below a number; it is told for all numbers, and what it does to those past the blank
-- nodes never matters
pub record Relabelling (nodes : ℕ) : Type 0 where
  pub to : ℕ → ℕ
  pub from : ℕ → ℕ
  pub from-to : (n : ℕ) → from (to n) ≡ n
  pub to-from : (n : ℕ) → to (from n) ≡ n
  pub to_node : (n : ℕ) → n < nodes → to n < nodes
  pub from_node : (n : ℕ) → n < nodes → from n < nodes

-- ---- a map of nodes, applied to every blank node

abbrev pub relabel_term : (ℕ → ℕ) → Term → Term
relabel_term σ (Iri t) = Iri t
relabel_term σ (Blank n) = Blank (σ n)
relabel_term σ (Literal l) = Literal l

abbrev pub relabel_graph_name : (ℕ → ℕ) → Option Term → Option Term
relabel_graph_name σ None = None
relabel_graph_name σ (Some t) = Some (relabel_term σ t)

abbrev pub relabel_statement : (ℕ → ℕ) → Statement → Statement
relabel_statement σ st = record {
  subject = relabel_term σ st.subject;
  predicate = relabel_term σ st.predicate;
  object = relabel_term σ st.object;
  graph_name = relabel_graph_name σ st.graph_name;
}

-- ---- isomorphism

-- the map carries the quads of D exactly to those of E
pub record Carries (σ : ℕ → ℕ) (D E : Dataset) : Type 0 where
  pub nodes : E.nodes ≡ D.nodes
  pub statements : Permutes (map (relabel_statement σ) D.statements) E.statements

pub record AreIsomorphic (D E : Dataset) : Type 0 where
  pub relabelling : Relabelling D.nodes
  pub carries : Carries relabelling.to D E

-- an automorphism: a relabelling that carries D exactly to itself
pub record Symmetry (D : Dataset) : Type 0 where
  pub relabelling : Relabelling D.nodes
  pub keeps : Carries relabelling.to D D
