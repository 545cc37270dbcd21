-- What a list of groups stands for: the map from related hashes to blank nodes of a call (RDF Dataset Canonicalization,
-- section 4.8, steps 1 to 3).
use Rattle.std.specs.Prelude.{◌≡◌, ℕ, ◌≤◌, List, [], ◌∷◌}
use Rattle.rdf_terms.specs.Lists.{Text, In, Permutes}
use Rattle.canon_model.specs.Groups.{HashToBlankNodes}
use Rattle.related_hash.specs.declared.group.Group.{Group}

-- the groups have these hashes, in this order, and the nodes of each stand in any order
abbrev pub AreGroups : (Text → List ℕ) → List Text → List Group → Type 0
AreGroups nodes [] [] = Unit {0}
AreGroups nodes (hash ∷ hashes) (group ∷ groups) =
    (group.hash ≡ hash) × Permutes (nodes hash) group.nodes × AreGroups nodes hashes groups
AreGroups nodes hashes groups = ⊥

-- the groups are the entries of the map, in code point order of their hashes
abbrev pub StandFor : HashToBlankNodes → List Group → Type 0
StandFor map groups = AreGroups map.nodes map.hashes groups

-- no node is above one after it
abbrev pub Ascends : List ℕ → Type 0
Ascends [] = Unit {0}
Ascends (x ∷ nodes) = ((y : ℕ) → In y nodes → x ≤ y) × Ascends nodes

abbrev pub AllAscend : List Group → Type 0
AllAscend groups = (group : Group) → In group groups → Ascends group.nodes
