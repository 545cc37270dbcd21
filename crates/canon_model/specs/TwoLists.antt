-- What an unjoined tie of two whole results does: the algorithm may end with two lists that no symmetry carries to one
-- another.
use Rattle.std.specs.Prelude.{◌≡◌, ℕ, false, ◌⊎◌, List, [], ◌∷◌, ◌++◌, map}
use Rattle.rdf_terms.specs.Vocabulary.{Text, In, is_before, Dataset, IsValid, Symmetry}
use Rattle.canon_model.specs.Hashing.{Hashing}
use Rattle.canon_model.specs.FirstDegree.{hash_first_degree_quads}
use Rattle.canon_model.specs.Issuer.{is_issued}
use Rattle.canon_model.specs.Outcome.{HashNDegreeQuads}
use Rattle.canon_model.specs.Allowed.{first_degree_hashes, issued_for_unique_hashes, unissued_nodes, HashPathResult, issue_results, IssuesForHashes, IsCanonicalList}
use Rattle.canon_model.specs.CountedRun.{counted_results, counted_hashes}
use Rattle.canon_model.specs.Ties.{AreTiedResults, IsJoined}

-- the canonical issuer may have the list c when the algorithm comes to this first-degree hash
pub record MayHaveIssued (ρ : Hashing) (D : Dataset) (hash : Text) (c : List ℕ) : Type 0 where
  pub before : List Text
  pub behind : List Text
  pub hashes_are : first_degree_hashes ρ D ≡ before ++ hash ∷ behind
  pub issued : IssuesForHashes ρ D before (issued_for_unique_hashes ρ D) c

-- the start node has an outcome whose hash is not before this one
pub record HasOutcomeFrom (ρ : Hashing) (D : Dataset) (c : List ℕ) (hash : Text) (start : ℕ) : Type 0 where
  pub own_hash : Text
  pub issuer : List ℕ
  pub outcome : HashNDegreeQuads ρ D c start (start ∷ []) own_hash issuer
  pub not_before : is_before own_hash hash ≡ false

-- Two tied results that may be issued for before any other result that lists a node of one of them: the canonical list
-- is one that the algorithm may come to their first-degree hash with, and no start node of that hash in the two lists
-- must give a lesser hash than theirs.
pub record MayBeIssuedFirst (ρ : Hashing) (D : Dataset) (c left right : List ℕ) : Type 0 where
  pub tied : AreTiedResults ρ D c [] left right
  pub may_have_issued : MayHaveIssued ρ D (hash_first_degree_quads ρ D tied.left_start) c
  pub none_lesser : (x : ℕ) → In x (unissued_nodes ρ D c (hash_first_degree_quads ρ D tied.left_start))
      → In x left ⊎ In x right → HasOutcomeFrom ρ D c tied.hash x

-- two lists that the canonical issuer may end with, and no symmetry of the dataset carries the first to the second
pub record HasTwoLists (ρ : Hashing) (D : Dataset) : Type 0 where
  pub first : List ℕ
  pub second : List ℕ
  pub first_allowed : IsCanonicalList ρ D first
  pub second_allowed : IsCanonicalList ρ D second
  pub not_carried : (σ : Symmetry D) → ¬ (second ≡ map σ.relabelling.to first)

-- where such a tie is not joined, there are two such lists
abbrev pub UnjoinedGivesTwoLists : Type 0
UnjoinedGivesTwoLists =
    (ρ : Hashing) (D : Dataset) → IsValid D → (c left right : List ℕ) → MayBeIssuedFirst ρ D c left right
    → ¬ (IsJoined D c left right) → HasTwoLists ρ D

-- ---- in the counted run

-- Two results of one hash in the counted run, the one before the other; when the run comes to the first of them, it has
-- issued for neither of their start nodes.
pub record AreNewResults (ρ : Hashing) (D : Dataset) (c : List ℕ) (left right : HashPathResult) : Type 0 where
  pub before : List Text
  pub class : Text
  pub behind : List Text
  pub hashes_are : first_degree_hashes ρ D ≡ before ++ class ∷ behind
  pub canonical_is : c ≡ (counted_hashes ρ D before (issued_for_unique_hashes ρ D)).value
  pub issued : List HashPathResult
  pub others : List HashPathResult
  pub results_are : counted_results ρ D c class ≡ issued ++ left ∷ others
  pub right_there : In right others
  pub same_hash : left.hash ≡ right.hash
  pub left_new : is_issued left.start (issue_results c issued) ≡ false
  pub right_new : is_issued right.start (issue_results c issued) ≡ false

-- such results are tied, and may be issued for first
abbrev pub NewResultsMayBeIssuedFirst : Type 0
NewResultsMayBeIssuedFirst =
    (ρ : Hashing) (D : Dataset) → IsValid D → (c : List ℕ) (left right : HashPathResult)
    → AreNewResults ρ D c left right → MayBeIssuedFirst ρ D c left.issuer right.issuer
