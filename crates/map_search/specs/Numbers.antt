-- Quads by the numbers of their terms, against the triples that they stand for.
use Rattle.std.specs.Prelude.{◌≡◌, ℕ, ◌<◌, ◌↔◌, List, map, length, None}
use Rattle.rdf_terms.specs.Vocabulary.{In, AreDistinct, statement, term_at, IsInRange}
use Rattle.rdf_terms.specs.declared.term.Term.{Term}
use Rattle.rdf_terms.specs.declared.term.Term.TheVariants.{Blank}
use Rattle.rdf_terms.specs.declared.term.Quad.{Quad}
use Rattle.graph_model.specs.Graphs.{mapped, IsReached}
use Rattle.graph_model.specs.Components.{IsMapOf, IsTight}
use Rattle.graph_model.specs.Counts.{HasMoreMaps, HasMoreBeginnings}
use Rattle.map_search.specs.Pattern.{IsReachedBy, Misses, map_of}
use Rattle.map_search.specs.Laws.{IsInTriple, MeansOfEnding}
use Rattle.map_search.specs.declared.search.Ending.{Ending}
use Rattle.map_search.specs.declared.search.Ending.TheVariants.{Found, Nothing, PastLimit}

-- the quads are triples by numbers, and `nodes` are the numbers of the terms of the nodes of a walk, each of which
-- stands in a triple
pub record AreNumbers (terms : List Term) (H : List Quad) (nodes walk : List ℕ) : Type 0 where
  pub terms_once : AreDistinct terms
  pub in_range : (q : Quad) → In q H → IsInRange terms q
  pub unnamed : (q : Quad) → In q H → q.g ≡ None
  pub once : AreDistinct nodes
  pub nodes_are : map (term_at terms) nodes ≡ map Blank walk
  pub used : (k : ℕ) → In k nodes → IsInTriple H k

-- a map of nodes to terms, and one of term numbers, say the same of each term
pub record Agrees (terms : List Term) (μ : ℕ → Term) (m : ℕ → ℕ) : Type 0 where
  pub within : (k : ℕ) → k < length terms → m k < length terms
  pub same : (k : ℕ) → k < length terms → term_at terms (m k) ≡ mapped μ (term_at terms k)

-- a map of the nodes of the walk that says the same as this map of numbers
pub record IsSaidBy (terms : List Term) (H : List Quad) (walk : List ℕ) (m : ℕ → ℕ) : Type 0 where
  pub μ : ℕ → Term
  pub is_map : IsMapOf (map (statement terms) H) walk μ
  pub agrees : Agrees terms μ m

-- an ending, by terms
abbrev pub MeansByTerms : List Term → List Quad → List ℕ → List ℕ → ℕ → Ending → Type 0
MeansByTerms terms H nodes walk limit (Found images) =
    IsSaidBy terms H walk (map_of nodes images.items) × Misses H nodes (map_of nodes images.items)
MeansByTerms terms H nodes walk limit Nothing =
    IsTight (map (statement terms) H) walk × (¬ (HasMoreBeginnings (map (statement terms) H) walk limit))
MeansByTerms terms H nodes walk limit PastLimit =
    HasMoreMaps (map (statement terms) H) (map (statement terms) H) walk limit

abbrev pub EndingsMeanByTerms : Type 0
EndingsMeanByTerms =
    (terms : List Term) (H : List Quad) (nodes walk : List ℕ) (limit : ℕ) (ending : Ending)
    → AreNumbers terms H nodes walk → MeansOfEnding H nodes limit ending → MeansByTerms terms H nodes walk limit ending

-- maps that say the same reach the same triples
abbrev pub AgreeingMapsReach : Type 0
AgreeingMapsReach =
    (terms : List Term) (H : List Quad) (nodes walk : List ℕ) (μ : ℕ → Term) (m : ℕ → ℕ) → AreNumbers terms H nodes walk
    → Agrees terms μ m → (q : Quad) → In q H
    → IsReachedBy m H q ↔ IsReached μ (map (statement terms) H) (statement terms q)
