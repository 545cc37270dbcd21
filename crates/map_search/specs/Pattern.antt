-- What the triples of some nodes ask of the nodes' images, by term numbers.
use Rattle.std.specs.Prelude.{◌≡◌, ℕ, ◌<◌, ◌↔◌, ◌⊎◌, ◌==◌, Bool, true, false, if◌then◌else◌, List, [], ◌∷◌, map, length, take, ◌≤◌, All, None, slice_index, slice_index_or}
use Rattle.std.specs.Prelude.{not}
use Rattle.std.specs.List.{list_all, list_any}
use Rattle.rdf_terms.specs.Lists.{In, AreDistinct}
use Rattle.rdf_terms.specs.declared.term.Quad.{Quad}
use Rattle.map_search.specs.declared.rows.End.{End}
use Rattle.map_search.specs.declared.rows.End.TheVariants.{Fixed, Place}
use Rattle.map_search.specs.declared.rows.Condition.{Condition}
use Rattle.map_search.specs.declared.rows.Condition.TheVariants.{Subject, Object, Both, SomeSubject, SomeObject}
use Rattle.map_search.specs.Rows.{meets_all}

-- ---- maps of term numbers

-- a predicate is kept
abbrev pub carried : (ℕ → ℕ) → Quad → Quad
carried m q = record { s = m q.s; p = q.p; o = m q.o; g = q.g }

pub record TouchesOneOf (nodes : List ℕ) (q : Quad) : Type 0 where
  pub node : ℕ
  pub there : In node nodes
  pub end : (node ≡ q.s) ⊎ (node ≡ q.o)

-- a map of these nodes carries each triple of G into H, and keeps what is no such node
pub record IsNodeMap (G H : List Quad) (nodes : List ℕ) (m : ℕ → ℕ) : Type 0 where
  pub kept : (n : ℕ) → (¬ (In n nodes)) → m n ≡ n
  pub carries : (q : Quad) → In q G → TouchesOneOf nodes q → In (carried m q) H

-- ---- conditions

abbrev pub end_at : List ℕ → End → ℕ
end_at images (Fixed n) = n
end_at images (Place j) = slice_index images j

-- some triple of H has these numbers
pub record Stands (H : List Quad) (s p o : ℕ) : Type 0 where
  pub triple : Quad
  pub there : In triple H
  pub s_is : triple.s ≡ s
  pub p_is : triple.p ≡ p
  pub o_is : triple.o ≡ o

-- the number meets the condition behind these images
abbrev pub Meets : List Quad → List ℕ → Condition → ℕ → Type 0
Meets H images (Subject p o) t = Stands H t p (end_at images o)
Meets H images (Object s p) t = Stands H (end_at images s) p t
Meets H images (Both p) t = Stands H t p t
Meets H images (SomeSubject p) t = (o : ℕ) × Stands H t p o
Meets H images (SomeObject p) t = (s : ℕ) × Stands H s p t

-- the other end of a triple: no node of the pattern, or that of an earlier place
abbrev pub IsOtherEnd : List ℕ → ℕ → End → ℕ → Type 0
IsOtherEnd nodes k (Fixed n) x = (x ≡ n) × (¬ (In x nodes))
IsOtherEnd nodes k (Place j) x = (j < k) × (x ≡ slice_index nodes j)

-- what the triple asks of the node of place k
abbrev pub IsAsked : List ℕ → ℕ → Quad → Condition → Type 0
IsAsked nodes k q (Subject p o) = (q.s ≡ slice_index nodes k) × (q.p ≡ p) × IsOtherEnd nodes k o q.o
IsAsked nodes k q (Object s p) = (q.o ≡ slice_index nodes k) × (q.p ≡ p) × IsOtherEnd nodes k s q.s
IsAsked nodes k q (Both p) = (q.s ≡ slice_index nodes k) × (q.p ≡ p) × (q.o ≡ slice_index nodes k)
IsAsked nodes k q (SomeSubject p) = (q.s ≡ slice_index nodes k) × (q.p ≡ p)
IsAsked nodes k q (SomeObject p) = (q.o ≡ slice_index nodes k) × (q.p ≡ p)

-- whether the whole triple is asked
abbrev pub IsWhole : Condition → Type 0
IsWhole (SomeSubject p) = ⊥
IsWhole (SomeObject p) = ⊥
IsWhole condition = Unit {0}

abbrev pub row_at : List (List Condition) → ℕ → List Condition
row_at rows k = slice_index_or rows k []

pub record IsAskedOf (G : List Quad) (nodes : List ℕ) (k : ℕ) (c : Condition) : Type 0 where
  pub triple : Quad
  pub there : In triple G
  pub touches : TouchesOneOf nodes triple
  pub asked : IsAsked nodes k triple c

pub record IsAskedWhole (nodes : List ℕ) (rows : List (List Condition)) (q : Quad) : Type 0 where
  pub place : ℕ
  pub within : place < length rows
  pub condition : Condition
  pub there : In condition (row_at rows place)
  pub whole : IsWhole condition
  pub asked : IsAsked nodes place q condition

-- the rows ask for each place what triples of its node ask, and each triple of G that touches a node is asked as a
-- whole in some row
pub record AreRows (G : List Quad) (nodes : List ℕ) (rows : List (List Condition)) : Type 0 where
  pub unnamed : (q : Quad) → In q G → q.g ≡ None
  pub distinct : AreDistinct nodes
  pub count : length rows ≡ length nodes
  pub only : (k : ℕ) → k < length rows → (c : Condition) → In c (row_at rows k) → IsAskedOf G nodes k c
  pub all : (q : Quad) → In q G → TouchesOneOf nodes q → IsAskedWhole nodes rows q

-- the test tells which numbers below the bound meet a condition in H
pub record TellsMeets (H : List Quad) (bound : ℕ) (meets : List ℕ → Condition → ℕ → Bool) : Type 0 where
  pub tells : (images : List ℕ) (c : Condition) (t : ℕ) → (meets images c t ≡ true) ↔ Meets H images c t
  pub bounded : (q : Quad) → In q H → (q.s < bound) × (q.o < bound)
  pub unnamed : (q : Quad) → In q H → q.g ≡ None

-- the next image fits where it meets the conditions of its row
abbrev pub fits_rows : (List ℕ → Condition → ℕ → Bool) → List (List Condition) → List ℕ → ℕ → Bool
fits_rows meets rows images t = meets_all (meets images) (row_at rows (length images)) t

-- the nodes of a pattern each stand in a triple of it
abbrev pub EachIsAsked : List (List Condition) → Type 0
EachIsAsked rows = (k : ℕ) → k < length rows → (c : Condition) × In c (row_at rows k)

-- ---- images as a map

-- each of the nodes is taken to the image at the same place, and all else is kept
abbrev pub map_of : List ℕ → List ℕ → ℕ → ℕ
map_of [] images n = n
map_of (x ∷ xs) [] n = n
map_of (x ∷ xs) (t ∷ ts) n = if x == n then t else map_of xs ts n

abbrev pub IsReachedBy : (ℕ → ℕ) → List Quad → Quad → Type 0
IsReachedBy m H q = In q (map (carried m) H)

-- some triple that touches a node is reached by no triple
pub record Misses (H : List Quad) (nodes : List ℕ) (m : ℕ → ℕ) : Type 0 where
  pub triple : Quad
  pub there : In triple H
  pub touches : TouchesOneOf nodes triple
  pub missed : ¬ (IsReachedBy m H triple)

-- each triple that touches a node is reached
abbrev pub ReachesAll : List Quad → List ℕ → (ℕ → ℕ) → Type 0
ReachesAll H nodes m = (q : Quad) → In q H → TouchesOneOf nodes q → IsReachedBy m H q

-- the test tells whether a map of the nodes misses a triple
pub record TellsMisses (H : List Quad) (nodes : List ℕ) (sought : List ℕ → Bool) : Type 0 where
  pub misses : (m : ℕ → ℕ) → IsNodeMap H H nodes m → sought (map m nodes) ≡ true → Misses H nodes m
  pub reaches : (m : ℕ → ℕ) → IsNodeMap H H nodes m → sought (map m nodes) ≡ false → ReachesAll H nodes m

-- ---- maps of the first nodes

-- the number stands as subject or object
pub record IsEndIn (H : List Quad) (t : ℕ) : Type 0 where
  pub triple : Quad
  pub there : In triple H
  pub end : (t ≡ triple.s) ⊎ (t ≡ triple.o)

-- those ends of the triple that are nodes are among the first ones
abbrev pub EndsAmong : List ℕ → ℕ → Quad → Type 0
EndsAmong nodes count q = (x : ℕ) → (x ≡ q.s) ⊎ (x ≡ q.o) → In x nodes → In x (take count nodes)

-- images of the first nodes: ends of H, and each triple of a node that has no other nodes than these is carried into H
pub record IsPartialNodeMap (G H : List Quad) (nodes images : List ℕ) : Type 0 where
  pub within : length images ≤ length nodes
  pub ends : All (IsEndIn H) images
  pub carries : (q : Quad) → In q G → TouchesOneOf nodes q → EndsAmong nodes (length images) q
      → In (carried (map_of nodes images) q) H

pub record HasMoreNodeMaps (G H : List Quad) (nodes : List ℕ) (limit : ℕ) : Type 0 where
  pub maps : List (List ℕ)
  pub distinct : AreDistinct maps
  pub are_maps : All (IsPartialNodeMap G H nodes) maps
  pub more : limit < length maps

-- ---- beginnings of maps of all nodes

-- the images of the first nodes under a map of all of them
pub record IsNodeBeginning (H : List Quad) (nodes images : List ℕ) : Type 0 where
  pub within : length images ≤ length nodes
  pub m : ℕ → ℕ
  pub is_map : IsNodeMap H H nodes m
  pub images_are : images ≡ map m (take (length images) nodes)

pub record HasMoreNodeBeginnings (H : List Quad) (nodes : List ℕ) (limit : ℕ) : Type 0 where
  pub beginnings : List (List ℕ)
  pub distinct : AreDistinct beginnings
  pub are_beginnings : All (IsNodeBeginning H nodes) beginnings
  pub more : limit < length beginnings

-- some node is no image
abbrev pub misses_node : List ℕ → List ℕ → Bool
misses_node nodes images = not (list_all (λ x. list_any (λ i. i == x) images) nodes)
