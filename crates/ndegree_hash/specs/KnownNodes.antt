-- The nodes that a frame and the trail hold are nodes of the dataset.
use Rattle.std.specs.Prelude.{ℕ, ◌<◌, List, Option, Some, None}
use Rattle.rdf_terms.specs.Vocabulary.{In, AreDistinct, Dataset}
use Rattle.canon_model.specs.CountedRun.{Chosen}
use Rattle.ndegree_hash.specs.declared.frame.Frame.{Frame}
use Rattle.related_hash.specs.declared.group.Group.{Group as Bag}
use Rattle.ndegree_hash.specs.Frames.{choice_of}

-- the trail of a valid call
pub record IsTrail (D : Dataset) (c t : List ℕ) : Type 0 where
  pub nodes : (x : ℕ) → In x t → x < D.nodes
  pub once : AreDistinct t
  pub apart : (x : ℕ) → In x c → ¬ (In x t)

-- the issuer of the chosen path is a trail
abbrev pub IsSound : Dataset → List ℕ → Option Chosen → Type 0
IsSound D c None = Unit {0}
IsSound D c (Some chosen) = IsTrail D c chosen.issuer

-- the nodes that a frame has still to come to are nodes of the dataset, and what it has chosen may be issued for
pub record IsKnown (D : Dataset) (c t : List ℕ) (f : Frame) : Type 0 where
  pub arrangement : (x : ℕ) → In x f.arrangement → x < D.nodes
  pub bags : (bag : Bag) → In bag f.groups → (x : ℕ) → In x bag.nodes → x < D.nodes
  pub chosen : IsSound D c (choice_of t f)

-- a step keeps that
pub record Keeps (c t : List ℕ) (f : Frame) (u : List ℕ) (g : Frame) : Type 0 where
  pub known : (D : Dataset) → IsKnown D c t f → IsTrail D c t → IsKnown D c u g
  pub trail : (D : Dataset) → IsKnown D c t f → IsTrail D c t → IsTrail D c u
