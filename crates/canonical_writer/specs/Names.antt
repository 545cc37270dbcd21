-- Names of blank nodes as values of code tell them, and which quads can be written with them.
use Rattle.std.specs.Prelude.{ℕ, ◌==◌, if◌then◌else◌, ◌++◌, Option, Some, IsSome, IfSome, codes}
use Rattle.rdf_terms.specs.Vocabulary.{Text, numeral, Statement, Naming, name_or_nothing}
use Rattle.rdf_terms.specs.declared.term.Term.{Term}
use Rattle.rdf_terms.specs.declared.term.Term.TheVariants.{Iri, Blank, Literal}

-- ---- namings

-- the naming that is told, with no text for a node that has no name
abbrev pub naming_of : (ℕ → Option Text) → Naming
naming_of name n = name_or_nothing (name n)

-- one node is `a` and all others are `z` (RDF Dataset Canonicalization, section 4.6)
abbrev pub degree_name : ℕ → ℕ → Option Text
degree_name node n = Some (if n == node then codes "a" else codes "z")

-- node k is `e` and k
abbrev pub numbered_name : ℕ → Option Text
numbered_name n = Some (codes "e" ++ numeral n)

-- ---- which blank nodes have a name

-- the term is no blank node without a name
abbrev pub IsNamed : (ℕ → Option Text) → Term → Type 0
IsNamed name (Iri t) = Unit {0}
IsNamed name (Blank n) = IsSome (name n)
IsNamed name (Literal l) = Unit {0}

-- each blank node of the statement has a name
pub record HasNames (name : ℕ → Option Text) (st : Statement) : Type 0 where
  pub subject : IsNamed name st.subject
  pub predicate : IsNamed name st.predicate
  pub object : IsNamed name st.object
  pub graph_name : IfSome st.graph_name (IsNamed name)
