-- Datasets in parts of which one has all blank nodes: what the standard allows for the whole is told by the parts.
use Rattle.std.specs.Prelude.{◌≡◌, ◌↔◌, ◌⊎◌, List, [], ◌∷◌, All, map}
use Rattle.rdf_terms.specs.Vocabulary.{Text, In, AreDistinct, Statement, Dataset, IsValid}
use Rattle.canon_model.specs.Hashing.{Hashing}
use Rattle.canon_model.specs.Allowed.{canonical_form, IsCanonicalOutput}
use Rattle.canon_model.specs.CountedRun.{counted_run}
use Rattle.canon_model.specs.Output.{chosen_form}
use Rattle.ground_parts.specs.Ground.{IsGround, HaveSameQuadsWithNodes}
use Rattle.ground_parts.specs.Laws.{HaveSameJoins}
use Rattle.ground_parts.specs.Lines.{IsMerge}

-- ---- parts

-- one of the datasets has the quad
pub record IsQuadOfSome (datasets : List Dataset) (st : Statement) : Type 0 where
  pub dataset : Dataset
  pub there : In dataset datasets
  pub has_quad : In st dataset.statements

-- The quads of D are those of A and of some ground datasets. A quad may be in several of them: D has it once. The blank
-- nodes of D are those of A, under the same numbers.
pub record HasParts (D A : Dataset) (others : List Dataset) : Type 0 where
  pub valid : IsValid A
  pub others_valid : All IsValid others
  pub others_ground : All IsGround others
  pub nodes : D.nodes ≡ A.nodes
  pub distinct : AreDistinct D.statements
  pub quads : (st : Statement) → (In st D.statements ↔ (In st A.statements ⊎ IsQuadOfSome others st))

-- the whole is a dataset, and has the quads with blank nodes of its one part
pub record IsWholeOf (D A : Dataset) : Type 0 where
  pub valid : IsValid D
  pub same_quads : HaveSameQuadsWithNodes A D

abbrev pub PartsMakeOne : Type 0
PartsMakeOne = (D A : Dataset) (others : List Dataset) → HasParts D A others → IsWholeOf D A

-- ---- the run

-- units, ties and list are the same, and the same ties are joined
pub record HaveSameRun (ρ : Hashing) (D A : Dataset) : Type 0 where
  pub run : counted_run ρ D ≡ counted_run ρ A
  pub joins : HaveSameJoins ρ D A

abbrev pub RunIsThatOfPart : Type 0
RunIsThatOfPart =
    (ρ : Hashing) (D A : Dataset) (others : List Dataset) → HasParts D A others → HaveSameRun ρ D A

-- ---- texts

-- without blank nodes there is one text, in which no name is written
abbrev pub GroundHasOneOutput : Type 0
GroundHasOneOutput = (ρ : Hashing) (G : Dataset) → IsValid G → IsGround G
    → (text : Text) → (IsCanonicalOutput ρ G text ↔ (text ≡ canonical_form G []))

-- for each dataset a text that the standard allows for it
abbrev pub AreOutputs : Hashing → List Dataset → List Text → Type 0
AreOutputs ρ [] [] = Unit {0}
AreOutputs ρ (D ∷ datasets) (text ∷ texts) = IsCanonicalOutput ρ D text × AreOutputs ρ datasets texts
AreOutputs ρ [] (text ∷ texts) = ⊥
AreOutputs ρ (D ∷ datasets) [] = ⊥

pub record IsMergeOfOutputs (ρ : Hashing) (datasets : List Dataset) (merged : Text) : Type 0 where
  pub texts : List Text
  pub outputs : AreOutputs ρ datasets texts
  pub merge : IsMerge texts merged

-- what is allowed for the whole is what is merged of texts that are allowed for the parts
abbrev pub OutputsAreMerges : Type 0
OutputsAreMerges = (ρ : Hashing) (D A : Dataset) (others : List Dataset) → HasParts D A others
    → (text : Text) → (IsCanonicalOutput ρ D text ↔ IsMergeOfOutputs ρ (A ∷ others) text)

-- so is the form that is chosen among them
abbrev pub ChosenFormIsMerge : Type 0
ChosenFormIsMerge = (ρ : Hashing) (D A : Dataset) (others : List Dataset) → HasParts D A others
    → IsMerge (map (chosen_form ρ) (A ∷ others)) (chosen_form ρ D)
