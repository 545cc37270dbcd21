-- What two outcomes of one start node mean for the outputs.
use Rattle.std.specs.Prelude.{◌≡◌, ℕ, false, List, [], ◌∷◌}
use Rattle.rdf_terms.specs.Vocabulary.{Text, In, is_before, Dataset, IsValid}
use Rattle.canon_model.specs.Hashing.{Hashing}
use Rattle.canon_model.specs.FirstDegree.{hash_first_degree_quads}
use Rattle.canon_model.specs.Outcome.{HashNDegreeQuads}
use Rattle.canon_model.specs.Allowed.{unissued_nodes}
use Rattle.canon_model.specs.TwoLists.{MayHaveIssued}
use Rattle.canon_model.specs.TwoOutcomes.{HasTwoOutcomes}
use Rattle.canon_core.specs.Outputs.{HasTwoOutputs}

-- the start node has an outcome whose hash is before neither of these
pub record HasOutcomeBehind (ρ : Hashing) (D : Dataset) (c : List ℕ) (one other : Text) (start : ℕ) : Type 0 where
  pub hash : Text
  pub issuer : List ℕ
  pub outcome : HashNDegreeQuads ρ D c start (start ∷ []) hash issuer
  pub not_before_one : is_before hash one ≡ false
  pub not_before_other : is_before hash other ≡ false

-- A start node whose call has two outcomes that no symmetry carries to one another, and for which either may be issued
-- before any other result that lists one of its nodes: the canonical list is one that the algorithm may come to its
-- first-degree hash with, and no other start node of that hash in its list must give a hash before either of theirs.
pub record MayBeIssuedEitherWay (ρ : Hashing) (D : Dataset) (c : List ℕ) (start : ℕ) : Type 0 where
  pub may_have_issued : MayHaveIssued ρ D (hash_first_degree_quads ρ D start) c
  pub two : HasTwoOutcomes ρ D c start (start ∷ [])
  pub none_lesser : (x : ℕ) → In x (unissued_nodes ρ D c (hash_first_degree_quads ρ D start)) → In x two.first
      → ¬ (x ≡ start) → HasOutcomeBehind ρ D c two.first_hash two.second_hash x

-- where there is such a start node, two outputs are allowed that differ
abbrev pub TwoOutcomesGiveTwoOutputs : Type 0
TwoOutcomesGiveTwoOutputs =
    (ρ : Hashing) (D : Dataset) → IsValid D → (c : List ℕ) (start : ℕ) → MayBeIssuedEitherWay ρ D c start
    → HasTwoOutputs ρ D
