-- Statements of the laws.
use Rattle.std.specs.Prelude.{◌≡◌, ℕ, ◌<◌, ◌↔◌, true, List}
use Rattle.rdf_terms.specs.Vocabulary.{In, Statement, mentions}
use Rattle.rdf_terms.specs.declared.term.Term.{Term}
use Rattle.graph_model.specs.Graphs.{composed, CarriesInto, IsEndomorphism, IsImage, IsInstance, IsProperPart, IsReached, IsLean, LiesWithin}
use Rattle.graph_model.specs.Components.{IsComponentWalk, IsClosed, IsMapOf, IsTight, IsTripleOf}
use Rattle.graph_model.specs.Counts.{IsCount, HasMoreMaps, HasMoreBeginnings}

-- maps of graphs compose
abbrev pub MapsCompose : Type 0
MapsCompose =
    (μ ν : ℕ → Term) (G H I : List Statement) → CarriesInto μ G H → CarriesInto ν H I → CarriesInto (composed μ ν) G I

-- an endomorphism and then one of its image give an endomorphism, and the image of the whole is the image of the second
pub record IsShrunk (G : List Statement) (μ : ℕ → Term) (H : List Statement) : Type 0 where
  pub endomorphism : IsEndomorphism μ G
  pub is_image : IsImage μ G H

abbrev pub EndomorphismsCompose : Type 0
EndomorphismsCompose =
    (G H I : List Statement) (μ ν : ℕ → Term) → IsShrunk G μ H → IsShrunk H ν I → IsShrunk G (composed μ ν) I

-- the image of an endomorphism is a part of the graph, so its nodes are nodes of the graph
abbrev pub ImagesLieWithin : Type 0
ImagesLieWithin = (G H : List Statement) (μ : ℕ → Term) → IsShrunk G μ H → LiesWithin H G

-- no instance of a lean graph is a proper part of it
abbrev pub LeanHasNoProperInstance : Type 0
LeanHasNoProperInstance = (G I : List Statement) → IsLean G → IsInstance G I → ¬ (IsProperPart I G)

-- no map of some nodes of a lean graph misses a triple of theirs
abbrev pub LeanIsTight : Type 0
LeanIsTight = (G : List Statement) (nodes : List ℕ) → IsLean G → IsTight G nodes

-- no triple leaves a component
abbrev pub ComponentsAreClosed : Type 0
ComponentsAreClosed = (G : List Statement) (walk : List ℕ) → IsComponentWalk G walk → IsClosed G walk

-- a triple that mentions the nodes of a component and is missed by an endomorphism of the whole graph is missed by a
-- map of the component into the graph that keeps all other nodes
pub record IsMissedBy (G : List Statement) (walk : List ℕ) (st : Statement) : Type 0 where
  pub μ : ℕ → Term
  pub is_map : IsMapOf G walk μ
  pub missed : ¬ (IsReached μ G st)

abbrev pub ComponentLaw : Type 0
ComponentLaw =
    (G : List Statement) (walk : List ℕ) (μ : ℕ → Term) (st : Statement) → IsComponentWalk G walk → IsEndomorphism μ G
    → IsTripleOf G walk st → ¬ (IsReached μ G st) → IsMissedBy G walk st

-- some closed set of nodes with the node is tight
pub record IsInTight (G : List Statement) (n : ℕ) : Type 0 where
  pub nodes : List ℕ
  pub closed : IsClosed G nodes
  pub there : In n nodes
  pub tight : IsTight G nodes

-- a graph in which each node lies in a tight component is lean
abbrev pub TightComponentsAreLean : Type 0
TightComponentsAreLean =
    (G : List Statement) → ((st : Statement) (n : ℕ) → In st G → mentions n st ≡ true → IsInTight G n) → IsLean G

-- a tight set of nodes stays tight in a part of the graph that keeps its triples
abbrev pub TightStaysTight : Type 0
TightStaysTight =
    (G H : List Statement) (nodes : List ℕ) → LiesWithin H G → ((st : Statement) → IsTripleOf G nodes st → In st H)
    → IsTight G nodes → IsTight H nodes

-- closed and tight, and their maps have no more beginnings than the limit
pub record IsSettled (G : List Statement) (limit : ℕ) (nodes : List ℕ) : Type 0 where
  pub closed : IsClosed G nodes
  pub tight : IsTight G nodes
  pub few : ¬ (HasMoreBeginnings G nodes limit)

-- a settled set of nodes stays settled when a map of other nodes shrinks the graph
abbrev pub SettledStaysSettled : Type 0
SettledStaysSettled =
    (G I : List Statement) (limit : ℕ) (walk nodes : List ℕ) (ν : ℕ → Term) → IsMapOf G walk ν → IsImage ν G I
    → ((n : ℕ) → In n nodes → ¬ (In n walk)) → IsSettled G limit nodes → IsSettled I limit nodes

-- more different partial maps than the limit are told exactly where the count is above it
abbrev pub CountIsMore : Type 0
CountIsMore =
    (G H : List Statement) (walk : List ℕ) (n limit : ℕ) → IsCount G H walk n → HasMoreMaps G H walk limit ↔ (limit < n)
