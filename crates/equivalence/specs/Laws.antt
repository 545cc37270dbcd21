-- Statements of the laws.
use Rattle.std.specs.Prelude.{◌≡◌, ℕ, List}
use Rattle.rdf_terms.specs.Vocabulary.{Statement, IsUsed}
use Rattle.rdf_terms.specs.declared.term.Term.{Term}
use Rattle.rdf_terms.specs.declared.term.Term.TheVariants.{Blank}
use Rattle.graph_model.specs.Graphs.{CarriesInto, IsEndomorphism, IsGraph, IsLean}
use Rattle.graph_model.specs.Laws.{IsShrunk}
use Rattle.equivalence.specs.Isomorphic.{CarriesOnto, AreIsomorphicGraphs}

-- the map takes the nodes of L one to one onto themselves
pub record IsPermuted (L : List Statement) (φ : ℕ → Term) : Type 0 where
  pub into : (n : ℕ) → IsUsed L n → (k : ℕ) × IsUsed L k × (φ n ≡ Blank k)
  pub once : (m n : ℕ) → IsUsed L m → IsUsed L n → φ m ≡ φ n → m ≡ n
  pub onto : (k : ℕ) → IsUsed L k → (n : ℕ) × IsUsed L n × (φ n ≡ Blank k)

-- an endomorphism of a lean graph permutes its nodes, and keeps all other terms, as every map does
abbrev pub LeanIsPermuted : Type 0
LeanIsPermuted =
    (L : List Statement) (φ : ℕ → Term) → IsGraph L → IsLean L → IsEndomorphism φ L → IsPermuted L φ

-- the map takes the nodes of L to nodes, and carries L exactly onto M
pub record IsRenaming (a : ℕ → Term) (L M : List Statement) : Type 0 where
  pub f : ℕ → ℕ
  pub says : (n : ℕ) → IsUsed L n → a n ≡ Blank (f n)
  pub carries : CarriesOnto f L M

-- of two maps between lean graphs, one each way, the first is an isomorphism
abbrev pub MapsOfLeanRename : Type 0
MapsOfLeanRename =
    (L M : List Statement) (a b : ℕ → Term) → IsGraph L → IsGraph M → IsLean L → IsLean M
    → CarriesInto a L M → CarriesInto b M L → IsRenaming a L M

-- L is a lean image of G: that of an endomorphism, and lean
pub record IsLeanImage (G L : List Statement) : Type 0 where
  pub μ : ℕ → Term
  pub shrunk : IsShrunk G μ L
  pub lean : IsLean L

-- lean images of two graphs that entail each other are isomorphic
abbrev pub LeanImagesAreIsomorphic : Type 0
LeanImagesAreIsomorphic =
    (G H L M : List Statement) (μ ν : ℕ → Term) → IsGraph G → IsGraph H → CarriesInto μ G H → CarriesInto ν H G
    → IsLeanImage G L → IsLeanImage H M → AreIsomorphicGraphs L M
