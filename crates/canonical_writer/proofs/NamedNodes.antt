-- Which statements have names for their nodes.
use Rattle.std.proofs.Common.{ℕ, ◌<◌, List, [], ◌∷◌, map, All, Option, Some, None, IsSome, IfSome, refl, subst, sym}
use Rattle.std.proofs.lemmas.List.Elements.{All-head, All-tail, All-cons, All-nil}
use Rattle.rdf_terms.proofs.Common.{Text, In, Statement, IsValidStatement, IsValidTerm, statement, issued_name, identifier_at}
use Rattle.rdf_terms.specs.declared.term.Term.{Term}
use Rattle.rdf_terms.specs.declared.term.Term.TheVariants.{Iri, Blank, Literal}
use Rattle.rdf_terms.specs.declared.term.Quad.{Quad}
use Rattle.rdf_terms.specs.declared.term.Prefix.{Prefix}
use Rattle.canonical_writer.specs.Names.{HasNames, IsNamed, degree_name, numbered_name}
use Rattle.canonical_writer.proofs.Placing.{place-here}

-- ---- names of all numbers

module _ (name : ℕ → Option Text) (all : (n : ℕ) → IsSome (name n)) where
  term_named : (t : Term) → IsNamed name t
  term_named (Iri t) = tt
  term_named (Blank n) = all n
  term_named (Literal l) = tt

  graph_named : (g : Option Term) → IfSome g (IsNamed name)
  graph_named None = tt
  graph_named (Some t) = term_named t

  pub HasNames-all : (st : Statement) → HasNames name st
  HasNames-all st = record { subject = term_named st.subject; predicate = term_named st.predicate; object = term_named st.object; graph_name = graph_named st.graph_name }

pub has_degree_names : (node : ℕ) (st : Statement) → HasNames (degree_name node) st
has_degree_names node st = HasNames-all (degree_name node) (λ n. refl) st

pub has_numbered_names : (st : Statement) → HasNames numbered_name st
has_numbered_names st = HasNames-all numbered_name (λ n. refl) st

-- ---- names of all nodes of a dataset

module _ (nodes : ℕ) (name : ℕ → Option Text) (all : (n : ℕ) → n < nodes → IsSome (name n)) where
  node_named : (t : Term) → IsValidTerm nodes t → IsNamed name t
  node_named (Iri t) v = tt
  node_named (Blank n) v = all n v
  node_named (Literal l) v = tt

  graph_node_named : (g : Option Term) → IfSome g (IsValidTerm nodes) → IfSome g (IsNamed name)
  graph_node_named None v = tt
  graph_node_named (Some t) v = node_named t v

  pub HasNames-valid : (st : Statement) → IsValidStatement nodes st → HasNames name st
  HasNames-valid st v = record {
    subject = node_named st.subject v.subject;
    predicate = node_named st.predicate v.predicate;
    object = node_named st.object v.object;
    graph_name = graph_node_named st.graph_name v.graph_name;
  }

  -- what `write_sorted` asks of the quads of a document
  pub All-HasNames-valid : (terms : List Term) (quads : List Quad) → All (IsValidStatement nodes) (map (statement terms) quads) → All (λ q. HasNames name (statement terms q)) quads
  All-HasNames-valid terms [] v = All-nil _
  All-HasNames-valid terms (q ∷ qs) v =
      All-cons (λ q. HasNames name (statement terms q)) q qs (HasNames-valid (statement terms q) (All-head (IsValidStatement nodes) (statement terms q) (map (statement terms) qs) v))
      (All-HasNames-valid terms qs (All-tail (IsValidStatement nodes) (statement terms q) (map (statement terms) qs) v))

-- a node of the list has a name
pub IsSome-issued_name : (prefix : Prefix) (list : List ℕ) (n : ℕ) → In n list → IsSome (issued_name prefix list n)
IsSome-issued_name prefix list n h = let p = place-here list n h in subst (λ o. IsSome (identifier_at prefix o)) (sym p.1) refl
