-- Canonicalization goes by the quads with blank nodes (RDF Dataset Canonicalization, sections 4.4 to 4.8): for each
-- thing that it makes of a dataset, that ground quads don't change it. Each law is the contract of a function of the
-- module `laws`.
use Rattle.std.specs.Prelude.{◌≡◌, ◌↔◌, ℕ, List, ◌++◌, All}
use Rattle.rdf_terms.specs.Vocabulary.{Text, Permutes, Statement, Dataset, IsValid, Carries}
use Rattle.canon_model.specs.declared.position.Position.{Position}
use Rattle.canon_model.specs.Hashing.{Hashing}
use Rattle.canon_model.specs.FirstDegree.{hash_first_degree_quads}
use Rattle.canon_model.specs.RelatedHash.{hash_related_blank_node}
use Rattle.canon_model.specs.Groups.{HashToBlankNodes, groups}
use Rattle.canon_model.specs.Outcome.{HashNDegreeQuads}
use Rattle.canon_model.specs.Allowed.{IsCanonicalList}
use Rattle.canon_model.specs.CountedRun.{Tie, counted_call, counted_run}
use Rattle.canon_model.specs.Ties.{IsJoined}
use Rattle.canon_model.specs.JoinedTies.{JoinedCount, IsFirstUnjoined, IsSettled}
use Rattle.ground_parts.specs.Ground.{IsGroundQuad, without_ground_quads, HaveSameQuadsWithNodes}

-- ---- the relation

pub record IsEquivalence (R : Dataset → Dataset → Type 0) : Type 0 where
  pub reflexive : (D : Dataset) → R D D
  pub symmetric : (D E : Dataset) → R D E → R E D
  pub transitive : (D E F : Dataset) → R D E → R E F → R D F

abbrev pub SameQuadsWithNodesIsEquivalence : Type 0
SameQuadsWithNodesIsEquivalence = IsEquivalence HaveSameQuadsWithNodes

abbrev pub with_quads : Dataset → List Statement → Dataset
with_quads D more = record { nodes = D.nodes; statements = D.statements ++ more }

abbrev pub GroundQuadsMayBeAdded : Type 0
GroundQuadsMayBeAdded =
    (D : Dataset) (more : List Statement) → All IsGroundQuad more → HaveSameQuadsWithNodes D (with_quads D more)

-- what is left is a dataset
abbrev pub GroundQuadsMayBeLeftOut : Type 0
GroundQuadsMayBeLeftOut =
    (D : Dataset)
    → HaveSameQuadsWithNodes D (without_ground_quads D) × (IsValid D → IsValid (without_ground_quads D))

-- ---- hashes

abbrev pub FirstDegreeHashesGoByNodes : Type 0
FirstDegreeHashesGoByNodes = (ρ : Hashing) (D E : Dataset) → HaveSameQuadsWithNodes D E → (n : ℕ)
    → hash_first_degree_quads ρ E n ≡ hash_first_degree_quads ρ D n

abbrev pub RelatedHashesGoByNodes : Type 0
RelatedHashesGoByNodes = (ρ : Hashing) (D E : Dataset) → HaveSameQuadsWithNodes D E
    → (c i : List ℕ) (related : ℕ) (predicate : Text) (position : Position)
    → hash_related_blank_node ρ E c i related predicate position
    ≡ hash_related_blank_node ρ D c i related predicate position

-- the same related hashes, and under each the same nodes in some order
pub record AreSameGroups (g h : HashToBlankNodes) : Type 0 where
  pub hashes : h.hashes ≡ g.hashes
  pub nodes : (hash : Text) → Permutes (g.nodes hash) (h.nodes hash)

abbrev pub GroupsGoByNodes : Type 0
GroupsGoByNodes = (ρ : Hashing) (D E : Dataset) → HaveSameQuadsWithNodes D E
    → (c i : List ℕ) (n : ℕ) → AreSameGroups (groups ρ D c i n) (groups ρ E c i n)

-- ---- calls and runs

abbrev pub OutcomesGoByNodes : Type 0
OutcomesGoByNodes = (ρ : Hashing) (D E : Dataset) → HaveSameQuadsWithNodes D E
    → (c : List ℕ) (n : ℕ) (i : List ℕ) (hash : Text) (j : List ℕ)
    → (HashNDegreeQuads ρ D c n i hash j ↔ HashNDegreeQuads ρ E c n i hash j)

-- the list that the canonical issuer may end with
abbrev pub CanonicalListsGoByNodes : Type 0
CanonicalListsGoByNodes = (ρ : Hashing) (D E : Dataset) → HaveSameQuadsWithNodes D E
    → (list : List ℕ) → (IsCanonicalList ρ D list ↔ IsCanonicalList ρ E list)

-- units, ties, hash and issuer of a call
abbrev pub CountedCallsGoByNodes : Type 0
CountedCallsGoByNodes = (ρ : Hashing) (D E : Dataset) → HaveSameQuadsWithNodes D E
    → (c : List ℕ) (n : ℕ) (i : List ℕ) → counted_call ρ E c n i ≡ counted_call ρ D c n i

-- units, ties and list of the run
abbrev pub CountedRunsGoByNodes : Type 0
CountedRunsGoByNodes = (ρ : Hashing) (D E : Dataset) → HaveSameQuadsWithNodes D E → counted_run ρ E ≡ counted_run ρ D

-- ---- symmetries and ties

-- a map of the nodes carries the one dataset to itself where it so carries the other
abbrev pub SymmetriesGoByNodes : Type 0
SymmetriesGoByNodes =
    (D E : Dataset) → HaveSameQuadsWithNodes D E → (σ : ℕ → ℕ) → (Carries σ D D ↔ Carries σ E E)

abbrev pub JoinedTiesGoByNodes : Type 0
JoinedTiesGoByNodes = (D E : Dataset) → HaveSameQuadsWithNodes D E
    → (c left right : List ℕ) → (IsJoined D c left right ↔ IsJoined E c left right)

-- whether all ties of the run are joined, how many of them are, and which is the first that is not
pub record HaveSameJoins (ρ : Hashing) (D E : Dataset) : Type 0 where
  pub settled : IsSettled ρ D ↔ IsSettled ρ E
  pub count : (ties : List Tie) (count : ℕ) → (JoinedCount D ties count ↔ JoinedCount E ties count)
  pub first : (ties : List Tie) (t : Tie) → (IsFirstUnjoined D ties t ↔ IsFirstUnjoined E ties t)

abbrev pub JoinsGoByNodes : Type 0
JoinsGoByNodes = (ρ : Hashing) (D E : Dataset) → HaveSameQuadsWithNodes D E → HaveSameJoins ρ D E
