-- Statements of the laws.
use Rattle.rdf_terms.specs.Lists.{In, AreDistinct}
use Rattle.std.specs.Prelude.{◌≡◌, ℕ, ◌⊎◌, Bool, List, map, length}
use Rattle.rdf_terms.specs.declared.term.Quad.{Quad}
use Rattle.map_search.specs.declared.rows.Condition.{Condition}
use Rattle.map_search.specs.declared.search.Ending.{Ending}
use Rattle.map_search.specs.declared.search.Ending.TheVariants.{Found, Nothing, PastLimit}
use Rattle.map_search.specs.Maps.{IsMap}
use Rattle.map_search.specs.Ends.{IsEnding}
use Rattle.map_search.specs.Pattern.{IsNodeMap, AreRows, EachIsAsked, TellsMeets, TellsMisses, fits_rows, map_of, Misses, ReachesAll, misses_node, HasMoreNodeMaps, HasMoreNodeBeginnings}

-- what is given of a search of some nodes of G for maps into H
pub record IsSearch (G H : List Quad) (nodes : List ℕ) (rows : List (List Condition)) (bound : ℕ)
    (meets : List ℕ → Condition → ℕ → Bool) : Type 0 where
  pub rows_are : AreRows G nodes rows
  pub asked : EachIsAsked rows
  pub tells : TellsMeets H bound meets

-- the maps of all places of the rows are the maps of the nodes that carry each triple of a node of G into H
abbrev pub MapsOfRows : Type 0
MapsOfRows = (G H : List Quad) (nodes : List ℕ) (rows : List (List Condition)) (bound : ℕ)
    (meets : List ℕ → Condition → ℕ → Bool) → IsSearch G H nodes rows bound meets →
    ((m : ℕ → ℕ) → IsNodeMap G H nodes m → IsMap bound (fits_rows meets rows) (map m nodes))
    × ((images : List ℕ) → IsMap bound (fits_rows meets rows) images → length images ≡ length nodes
    → IsNodeMap G H nodes (map_of nodes images))

-- what an ending of a search for a map that misses a triple means
abbrev pub MeansOfEnding : List Quad → List ℕ → ℕ → Ending → Type 0
MeansOfEnding H nodes limit (Found images) =
    IsNodeMap H H nodes (map_of nodes images.items) × Misses H nodes (map_of nodes images.items)
MeansOfEnding H nodes limit Nothing =
    ((m : ℕ → ℕ) → IsNodeMap H H nodes m → ReachesAll H nodes m) × (¬ (HasMoreNodeBeginnings H nodes limit))
MeansOfEnding H nodes limit PastLimit = HasMoreNodeMaps H H nodes limit

abbrev pub EndingsMean : Type 0
EndingsMean =
    (H : List Quad) (nodes : List ℕ) (rows : List (List Condition)) (bound : ℕ) (meets : List ℕ → Condition → ℕ → Bool)
    (sought : List ℕ → Bool) (limit : ℕ) (ending : Ending) → IsSearch H H nodes rows bound meets
    → TellsMisses H nodes sought → IsEnding bound (fits_rows meets rows) (length rows) sought limit ending
    → MeansOfEnding H nodes limit ending

-- the node stands in some triple
pub record IsInTriple (H : List Quad) (n : ℕ) : Type 0 where
  pub triple : Quad
  pub there : In triple H
  pub end : (n ≡ triple.s) ⊎ (n ≡ triple.o)

-- a map of the nodes misses a triple of them exactly where some node is no image
abbrev pub NodesTell : Type 0
NodesTell = (H : List Quad) (nodes : List ℕ) → AreDistinct H → AreDistinct nodes
    → ((n : ℕ) → In n nodes → IsInTriple H n) → TellsMisses H nodes (misses_node nodes)
