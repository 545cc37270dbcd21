-- Simple entailment (RDF 1.1 Semantics, section 5.2): some instance of the entailed graph is a part of the graph.
use Rattle.std.specs.Prelude.{◌≡◌, ℕ, ◌⊎◌, true, List, [], ◌∷◌}
use Rattle.rdf_terms.specs.Vocabulary.{In, Statement, mentions}
use Rattle.rdf_terms.specs.declared.term.Term.{Term}
use Rattle.graph_model.specs.Graphs.{mapped_triple, CarriesInto}
use Rattle.graph_model.specs.Components.{IsClosed, IsTripleOf, IsComponentWalk}
use Rattle.graph_model.specs.Counts.{HasMoreMaps}

-- a map of the nodes of E to terms that carries E into G
abbrev pub IsInstanceMap : List Statement → List Statement → (ℕ → Term) → Type 0
IsInstanceMap G E μ = CarriesInto μ E G

abbrev pub Entails : List Statement → List Statement → Type 0
Entails G E = (μ : ℕ → Term) × IsInstanceMap G E μ

-- the map carries each triple of E that mentions one of the nodes into G
abbrev pub MapsInto : List Statement → List Statement → List ℕ → (ℕ → Term) → Type 0
MapsInto E G nodes μ = (st : Statement) → IsTripleOf E nodes st → In (mapped_triple μ st) G

-- a triple that mentions no node
abbrev pub IsGround : Statement → Type 0
IsGround st = (n : ℕ) → ¬ (mentions n st ≡ true)

-- some nodes that no triple of E leaves, and a map of their triples into G
pub record Part (E G : List Statement) : Type 0 where
  pub nodes : List ℕ
  pub closed : IsClosed E nodes
  pub μ : ℕ → Term
  pub maps : MapsInto E G nodes μ

-- the node is in one of the parts
abbrev pub IsInPart : {E G : List Statement} → ℕ → List (Part E G) → Type 0
IsInPart n [] = ⊥
IsInPart n (p ∷ ps) = In n p.nodes ⊎ IsInPart n ps

-- a component of E, by its least node, has more partial maps into G than the limit
pub record IsPastInto (E G : List Statement) (limit node : ℕ) : Type 0 where
  pub walk : List ℕ
  pub is_walk : IsComponentWalk E walk
  pub first_is : is_walk.first ≡ node
  pub past : HasMoreMaps E G walk limit

-- no component of E has more partial maps into G than the limit
abbrev pub AreWithin : List Statement → List Statement → ℕ → Type 0
AreWithin E G limit = (walk : List ℕ) → IsComponentWalk E walk → ¬ (HasMoreMaps E G walk limit)
