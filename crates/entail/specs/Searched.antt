-- What the search of components finds.
use Rattle.std.specs.Prelude.{◌≡◌, ℕ, ◌<◌, Bool, true, false, List, length, slice_index, All}
use Rattle.rdf_terms.specs.Vocabulary.{In, Statement, mentions, term_at}
use Rattle.rdf_terms.specs.declared.term.Term.{Term}
use Rattle.graph_model.specs.Graphs.{mapped_triple}
use Rattle.graph_model.specs.Counts.{HasMoreMaps}
use Rattle.map_search.specs.Pattern.{map_of}
use Rattle.map_search.specs.declared.search.Ending.{Ending}
use Rattle.map_search.specs.declared.search.Ending.TheVariants.{Found, Nothing, PastLimit}
use Rattle.component_walk.specs.Walk.{IsWalkFrom}
use Rattle.entail.specs.Answers.{map_by}
use Rattle.entail.specs.Entailment.{Entails, IsGround, MapsInto}
use Rattle.entail.specs.declared.component.Searched.{Searched}
use Rattle.entail.specs.declared.component.Searched.TheVariants.{Mapped, Unmapped, PastLimit as Stopped}

-- each triple without nodes stands in the graph
abbrev pub IsGroundKept : List Statement → List Statement → Type 0
IsGroundKept E G = (st : Statement) → In st E → IsGround st → In st G

-- ---- one walk

-- numbers of terms of the graph, one for each node of the walk, that carry the walk's triples into the graph
pub record AreImagesInto (E G : List Statement) (terms : List Term) (walk images : List ℕ) : Type 0 where
  pub count : length images ≡ length walk
  pub in_range : All (λ t. t < length terms) images
  pub maps : MapsInto E G walk (λ n. term_at terms (map_of walk images n))

-- no map of the nodes carries their triples into the graph
abbrev pub IsUnmapped : List Statement → List Statement → List ℕ → Type 0
IsUnmapped E G walk = (μ : ℕ → Term) → ¬ (MapsInto E G walk μ)

-- what an ending of the search of a walk means
abbrev pub MeansInto : List Statement → List Statement → List Term → List ℕ → ℕ → Ending → Type 0
MeansInto E G terms walk limit (Found images) = AreImagesInto E G terms walk images.items
MeansInto E G terms walk limit Nothing = IsUnmapped E G walk
MeansInto E G terms walk limit PastLimit = HasMoreMaps E G walk limit

abbrev pub IfFound : Ending → (List ℕ → Type 0) → Type 0
IfFound (Found images) P = P images.items
IfFound ending P = Unit {0}

-- each node of the walk has the image at its place, and no other image changes
pub record AreWritten (walk found before after : List ℕ) : Type 0 where
  pub count : length after ≡ length before
  pub here : (k : ℕ) → k < length walk → slice_index after (slice_index walk k) ≡ slice_index found k
  pub others : (n : ℕ) → (¬ (In n walk)) → slice_index after n ≡ slice_index before n

abbrev pub IsKept : List ℕ → Ending → List ℕ → List ℕ → Searched → Type 0
IsKept walk (Found found) before after searched = (searched ≡ Mapped) × AreWritten walk found.items before after
IsKept walk Nothing before after searched = (searched ≡ Unmapped) × (after ≡ before)
IsKept walk PastLimit before after searched = (searched ≡ Stopped) × (after ≡ before)

-- ---- the images of the nodes

-- the node's image is the number of a term
pub record IsImaged (terms : List Term) (images : List ℕ) (n : ℕ) : Type 0 where
  pub within : n < length images
  pub image : slice_index images n < length terms

-- the nodes of the walk have images that carry their triples into the graph, and no other image changes
pub record IsWalkMapped (E G : List Statement) (terms : List Term) (walk before after : List ℕ) : Type 0 where
  pub count : length after ≡ length before
  pub imaged : (n : ℕ) → In n walk → IsImaged terms after n
  pub others : (n : ℕ) → (¬ (In n walk)) → slice_index after n ≡ slice_index before n
  pub maps : MapsInto E G walk (map_by terms after)

abbrev pub IsWalkSearched : List Statement → List Statement → List Term → List ℕ → ℕ → List ℕ → List ℕ → Searched
    → Type 0
IsWalkSearched E G terms walk limit before after Mapped = IsWalkMapped E G terms walk before after
IsWalkSearched E G terms walk limit before after Unmapped = IsUnmapped E G walk
IsWalkSearched E G terms walk limit before after Stopped = (after ≡ before) × HasMoreMaps E G walk limit

-- the component of the node was searched
pub record IsComponentSearched (E G : List Statement) (terms : List Term) (start limit : ℕ) (before after : List ℕ)
    (searched : Searched) : Type 0 where
  pub walk : List ℕ
  pub is_walk : IsWalkFrom E start walk
  pub is_searched : IsWalkSearched E G terms walk limit before after searched

-- ---- all components up to a node

-- the nodes with an image are closed, their images carry their triples into the graph, and each node before `from` has
-- one
pub record AreMapped (E G : List Statement) (terms : List Term) (images : List ℕ) (from : ℕ) : Type 0 where
  pub maps : (st : Statement) (n : ℕ) → In st E → mentions n st ≡ true → IsImaged terms images n
      → In (mapped_triple (map_by terms images) st) G
  pub closed : (st : Statement) (n k : ℕ) → In st E → mentions n st ≡ true → mentions k st ≡ true
      → IsImaged terms images n → IsImaged terms images k
  pub behind : (n : ℕ) → n < length images → n < from → IsImaged terms images n

-- all nodes before `from` have an image, or the graph does not entail the other
abbrev pub IsPassed : List Statement → List Statement → List Term → List ℕ → ℕ → Bool → Type 0
IsPassed E G terms images from true = AreMapped E G terms images from
IsPassed E G terms images from false = ¬ (Entails G E)
