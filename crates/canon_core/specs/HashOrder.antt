-- Nodes in the order of their hashes, those of one hash in the order of their numbers, and the classes of nodes of one
-- hash.
use Rattle.std.specs.Prelude.{◌≡◌, ℕ, ◌<◌, if◌then◌else◌, List, [], ◌∷◌, filter, slice_index_or}
use Rattle.std.specs.Ordering.{nat_cmp}
use Rattle.std.specs.Cmp.Lexicographic.{slice_cmp}
use Rattle.std.specs.Ordering.{on, then_cmp}
use Rattle.std.specs.Str.{bytes_eq}
use Rattle.std.specs.declared.cmp.Ordering.{Ordering}
use Rattle.std.specs.declared.cmp.Ordering.TheVariants.{Less}
use Rattle.rdf_terms.specs.Lists.{Text, In, numbers_below}
use Rattle.canon_model.specs.Allowed.{HashPathResult, start_of}

-- the hash at the place of this node
abbrev pub hash_in : List Text → ℕ → Text
hash_in hashes node = slice_index_or hashes node []

-- ---- nodes with their hashes

abbrev pub hash_of : Text × ℕ → Text
hash_of p = p.0

abbrev pub node_of : Text × ℕ → ℕ
node_of p = p.1

-- by the hashes in code point order, and within a class by the numbers
abbrev pub node_cmp : Text × ℕ → Text × ℕ → Ordering
node_cmp = then_cmp (on hash_of (slice_cmp nat_cmp)) (on node_of nat_cmp)

abbrev pub hash_of_result : HashPathResult → Text
hash_of_result r = r.hash

abbrev pub result_cmp : HashPathResult → HashPathResult → Ordering
result_cmp = then_cmp (on hash_of_result (slice_cmp nat_cmp)) (on start_of nat_cmp)

-- each is before all that stand behind it
abbrev pub StrictlyAscends : {A : Type 0} → (A → A → Ordering) → List A → Type 0
StrictlyAscends cmp [] = Unit {0}
StrictlyAscends {A} cmp (x ∷ xs) = ((y : A) → In y xs → cmp x y ≡ Less) × StrictlyAscends cmp xs

-- ---- classes

-- the nodes of this hash, in the order of their numbers
abbrev pub nodes_under : (ℕ → Text) → ℕ → Text → List ℕ
nodes_under hash count h = filter (λ n. bytes_eq (hash n) h) (numbers_below count)

-- Some last classes, whole and in order: each node has its own hash, and stands with all others of it.
pub record IsRanked (hash : ℕ → Text) (count : ℕ) (nodes : List (Text × ℕ)) : Type 0 where
  pub ascends : StrictlyAscends node_cmp nodes
  pub own_hash : (p : Text × ℕ) → In p nodes → p.0 ≡ hash p.1
  pub below : (p : Text × ℕ) → In p nodes → p.1 < count
  pub whole : (p : Text × ℕ) → In p nodes → (n : ℕ) → n < count → hash n ≡ p.0 → In (hash n, n) nodes

-- the nodes at the front that have this hash
abbrev pub front_class : Text → List (Text × ℕ) → List (Text × ℕ)
front_class h [] = []
front_class h (p ∷ nodes) = if bytes_eq p.0 h then p ∷ front_class h nodes else []

-- the nodes behind those
abbrev pub behind_class : Text → List (Text × ℕ) → List (Text × ℕ)
behind_class h [] = []
behind_class h (p ∷ nodes) = if bytes_eq p.0 h then behind_class h nodes else p ∷ nodes

-- the hash of the first node
abbrev pub class_hash : List (Text × ℕ) → Text
class_hash [] = []
class_hash (p ∷ nodes) = p.0
