-- The maps that were found, one after the other.
use Rattle.std.specs.Prelude.{◌≡◌, ℕ, ◌<◌, List, [], ◌∷◌, length, slice_set, slice_get, slice_index, Some, All}
use Rattle.rdf_terms.specs.Vocabulary.{AreDistinct, Document}
use Rattle.rdf_terms.specs.declared.term.Term.TheVariants.{Blank}
use Rattle.map_search.specs.Pattern.{map_of}
use Rattle.lean_search.specs.declared.steps.Step.{Step}

-- the first step, then the next
abbrev pub map_by_steps : List Step → ℕ → ℕ
map_by_steps [] n = n
map_by_steps (s ∷ steps) n = map_by_steps steps (map_of s.terms.items s.images.items n)

-- numbers of terms, each once, and as many of their images
pub record IsStep (terms : ℕ) (s : Step) : Type 0 where
  pub once : AreDistinct s.terms.items
  pub count : length s.images.items ≡ length s.terms.items
  pub in_range : All (λ t. t < terms) s.terms.items
  pub images_in_range : All (λ t. t < terms) s.images.items

abbrev pub AreSteps : ℕ → List Step → Type 0
AreSteps terms steps = All (IsStep terms) steps

-- each of the terms is given the number at its place
abbrev pub put_all : List ℕ → List ℕ → List ℕ → List ℕ
put_all to [] values = to
put_all to (t ∷ ts) [] = to
put_all to (t ∷ ts) (v ∷ vs) = put_all (slice_set to t v) ts vs

-- the list takes the node's term to this number
pub record IsNodeMapped (d : Document) (to : List ℕ) (n m : ℕ) : Type 0 where
  pub number : ℕ
  pub number_is : slice_get d.terms number ≡ Some (Blank n)
  pub mapped_is : m ≡ slice_index to number

-- for each node, the number that the steps take its term to
pub record IsMapBy (d : Document) (steps : List Step) (map : List ℕ) : Type 0 where
  pub count : length map ≡ length d.labels
  pub each : (n : ℕ) → n < length d.labels
      → (k : ℕ) × (slice_get d.terms k ≡ Some (Blank n)) × (slice_index map n ≡ map_by_steps steps k)
