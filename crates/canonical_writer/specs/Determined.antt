-- What a canonical line tells of its quad, and a canonical text of its dataset.
use Rattle.std.specs.Prelude.{◌≡◌, ℕ, ◌<◌, ◌↔◌, List, map, Option, Some, None, All}
use Rattle.std.specs.Char.{is_ascii_alphanumeric}
use Rattle.rdf_terms.specs.Vocabulary.{In, AreDistinct, Statement, Dataset, Relabelling, Carries, Naming}
use Rattle.rdf_terms.specs.declared.term.Term.{Term}
use Rattle.rdf_terms.specs.declared.term.Term.TheVariants.{Iri, Blank, Literal}
use Rattle.std.specs.Prelude.{true}

-- the name of each node consists of ASCII letters and digits
abbrev pub HasPlainNames : ℕ → Naming → Type 0
HasPlainNames nodes ν = (n : ℕ) → n < nodes → All (λ c. is_ascii_alphanumeric c ≡ true) (ν n)

-- ---- terms and statements that are the same but for the numbers of their nodes

-- the same IRI, the same literal, or two blank nodes of one name
abbrev pub AgreeTerms : Naming → Naming → Term → Term → Type 0
AgreeTerms ν ν' (Iri t) (Iri u) = t ≡ u
AgreeTerms ν ν' (Blank m) (Blank n) = ν m ≡ ν' n
AgreeTerms ν ν' (Literal l) (Literal k) = l ≡ k
AgreeTerms ν ν' (Iri t) (Blank n) = ⊥
AgreeTerms ν ν' (Iri t) (Literal k) = ⊥
AgreeTerms ν ν' (Blank m) (Iri u) = ⊥
AgreeTerms ν ν' (Blank m) (Literal k) = ⊥
AgreeTerms ν ν' (Literal l) (Iri u) = ⊥
AgreeTerms ν ν' (Literal l) (Blank n) = ⊥

abbrev pub AgreeGraphNames : Naming → Naming → Option Term → Option Term → Type 0
AgreeGraphNames ν ν' None None = Unit {0}
AgreeGraphNames ν ν' (Some t) (Some u) = AgreeTerms ν ν' t u
AgreeGraphNames ν ν' None (Some u) = ⊥
AgreeGraphNames ν ν' (Some t) None = ⊥

pub record Agree (ν ν' : Naming) (st su : Statement) : Type 0 where
  pub subject : AgreeTerms ν ν' st.subject su.subject
  pub predicate : AgreeTerms ν ν' st.predicate su.predicate
  pub object : AgreeTerms ν ν' st.object su.object
  pub graph_name : AgreeGraphNames ν ν' st.graph_name su.graph_name

-- ---- lists of all nodes

-- the list has each node once
pub record ListsNodes (nodes : ℕ) (list : List ℕ) : Type 0 where
  pub distinct : AreDistinct list
  pub all : (n : ℕ) → In n list ↔ (n < nodes)

-- an isomorphism that takes the nodes of one list to those of the other, place by place
pub record CarriesLists (D E : Dataset) (c d : List ℕ) : Type 0 where
  pub relabelling : Relabelling D.nodes
  pub lists : map relabelling.to c ≡ d
  pub carries : Carries relabelling.to D E
