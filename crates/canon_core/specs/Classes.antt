-- What is left of the counted run of a dataset when it comes to a class of nodes of one first-degree hash.
use Rattle.std.specs.Prelude.{◌≡◌, ℕ, ◌<◌, List, [], ◌∷◌, map}
use Rattle.rdf_terms.specs.Vocabulary.{Text, In, AreDistinct, Dataset}
use Rattle.std.specs.List.{flat_map}
use Rattle.canon_model.specs.Allowed.{first_degree_hashes, nodes_with_hash, single}
use Rattle.canon_model.specs.FirstDegree.{hash_first_degree_quads}
use Rattle.canon_model.specs.Hashing.{Hashing}
use Rattle.canon_model.specs.Groups.{each_text_once}
use Rattle.canon_model.specs.CountedRun.{Counted, counted_hashes}
use Rattle.canon_core.specs.HashOrder.{IsRanked, hash_of}

-- nodes of the dataset, each once
pub record IsCanonicalSoFar (D : Dataset) (c : List ℕ) : Type 0 where
  pub once : AreDistinct c
  pub below : (x : ℕ) → In x c → x < D.nodes

-- the run by way of one class, from the canonical list c
abbrev pub run_of_class : Hashing → Dataset → Text → List ℕ → Counted (List ℕ)
run_of_class ρ D hash c = counted_hashes ρ D (hash ∷ []) c

-- the run by way of the classes of these nodes
abbrev pub run_from : Hashing → Dataset → List (Text × ℕ) → List ℕ → Counted (List ℕ)
run_from ρ D nodes c = counted_hashes ρ D (each_text_once (map hash_of nodes)) c

-- all nodes in the order of their hashes
pub record IsInHashOrder (ρ : Hashing) (D : Dataset) (nodes : List (Text × ℕ)) : Type 0 where
  pub ranked : IsRanked (hash_first_degree_quads ρ D) D.nodes nodes
  pub hashes : each_text_once (map hash_of nodes) ≡ first_degree_hashes ρ D

-- the nodes that are alone under their hashes, in the order of these
abbrev pub alone_under_hashes : Hashing → Dataset → List ℕ
alone_under_hashes ρ D = flat_map (λ hash. single (nodes_with_hash ρ D hash)) (first_degree_hashes ρ D)
