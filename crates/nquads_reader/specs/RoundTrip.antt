-- What it means that a written text is read back: names that are labels of N-Quads, and the dataset that is read (RDF
-- 1.1 Concepts, section 4.1).
use Rattle.std.specs.Prelude.{◌≡◌, ℕ, ◌<◌, ◌⊎◌, ◌++◌, List, length, Some, slice_get, codes}
use Rattle.rdf_terms.specs.Vocabulary.{Text, numeral, Statement, Dataset, Relabelling, Carries, Naming}
use Rattle.rdf_terms.specs.declared.term.Label.{Label}
use Rattle.rdf_terms.specs.declared.term.Label.TheVariants.{Named}

-- the prefixes that names are written with: `c14n`, `b` and `e`
abbrev pub IsPrefix : Text → Type 0
IsPrefix prefix = (prefix ≡ codes "c14n") ⊎ ((prefix ≡ codes "b") ⊎ (prefix ≡ codes "e"))

-- each node is named by one and the same prefix and the numeral of a number of its own
pub record IsNumbered (nodes : ℕ) (ν : Naming) : Type 0 where
  pub prefix : Text
  pub is_prefix : IsPrefix prefix
  pub number : ℕ → ℕ
  pub name : (n : ℕ) → n < nodes → ν n ≡ prefix ++ numeral (number n)
  pub own : (m n : ℕ) → m < nodes → n < nodes → number m ≡ number n → m ≡ n

-- the labels and the statements are those of a dataset that is isomorphic to D, and the label of each node is the name
-- of its partner in D
pub record ReadsBack (D : Dataset) (ν : Naming) (labels : List Label) (statements : List Statement) : Type 0 where
  pub relabelling : Relabelling D.nodes
  pub carries : Carries relabelling.to D (record { nodes = length labels; statements = statements })
  pub label : (n : ℕ) → n < D.nodes → slice_get labels (relabelling.to n) ≡ Some (Named (ν n))
