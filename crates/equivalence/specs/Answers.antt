-- What `equivalent` answers.
use Rattle.std.specs.Prelude.{◌≡◌, ℕ, ◌⊎◌, ◌↔◌, List, map, Option, Some, None}
use Rattle.std.specs.List.Sorted.{IsStrictlyIncreasing}
use Rattle.rdf_terms.specs.Vocabulary.{In, Statement, IsUsed, Document, statements}
use Rattle.rdf_terms.specs.declared.pair_list.Bijection.{Bijection}
use Rattle.graph_model.specs.Graphs.{IsGraph}
use Rattle.lean_search.specs.Lean.{IsLeanForm, IsPastLimit, triples_of}
use Rattle.lean_search.specs.declared.form.LeanForm.{LeanForm}
use Rattle.component_walk.specs.Named.{IsFirstNamed}
use Rattle.entail.specs.Entailment.{Entails, IsPastInto}
use Rattle.entail.specs.Answers.{AreGraphs}
use Rattle.equivalence.specs.Isomorphic.{CarriesOnto}
use Rattle.equivalence.specs.declared.form.EquivStop.{EquivStop}
use Rattle.equivalence.specs.declared.form.EquivStop.TheVariants.{NotOneGraph, SearchLimit, EntailLimit, NoMemory}

-- two graphs are equivalent where each entails the other (RDF 1.1 Semantics, section 5.2)
abbrev pub AreEquivalent : List Statement → List Statement → Type 0
AreEquivalent G H = Entails G H × Entails H G

-- the pairs hold each node of L once, ascending, with the node that it is taken to, and carry L exactly onto M
pub record IsIsomorphism (L M : List Statement) (pairs : List (ℕ × ℕ)) : Type 0 where
  pub f : ℕ → ℕ
  pub carries : CarriesOnto f L M
  pub nodes : List ℕ
  pub ascend : IsStrictlyIncreasing nodes
  pub are_nodes : (n : ℕ) → In n nodes ↔ IsUsed L n
  pub pairs_are : pairs ≡ map (λ n. (n, f n)) nodes

-- each graph entails the other, and the pairs carry the lean form of g exactly onto that of h
pub record IsEquivalence (g h : Document) (limit : ℕ) (b : Bijection) : Type 0 where
  pub graphs : AreGraphs g h
  pub equivalent : AreEquivalent (statements g) (statements h)
  pub form : LeanForm
  pub other : LeanForm
  pub is_form : IsLeanForm g limit form
  pub is_other : IsLeanForm h limit other
  pub isomorphism : IsIsomorphism (triples_of g form.quads) (triples_of h other.quads) b.pairs

abbrev pub IsEquivAnswer : Document → Document → ℕ → Option Bijection → Type 0
IsEquivAnswer g h limit (Some b) = IsEquivalence g h limit b
IsEquivAnswer g h limit None = AreGraphs g h × (¬ (AreEquivalent (statements g) (statements h)))

abbrev pub IsEquivStop : Document → Document → ℕ → EquivStop → Type 0
IsEquivStop g h limit (NotOneGraph file quad) =
    ((file ≡ 0) × IsFirstNamed g.quads quad) ⊎ ((file ≡ 1) × IsGraph (statements g) × IsFirstNamed h.quads quad)
IsEquivStop g h limit (SearchLimit file image) =
    AreGraphs g h × (((file ≡ 0) × IsPastLimit g limit image) ⊎ ((file ≡ 1) × IsPastLimit h limit image))
IsEquivStop g h limit (EntailLimit file node) =
    AreGraphs g h
    × (((file ≡ 0) × IsPastInto (statements g) (statements h) limit node)
    ⊎ ((file ≡ 1) × IsPastInto (statements h) (statements g) limit node))
IsEquivStop g h limit NoMemory = Unit {0}

-- ---- one step of the call

-- no answer of `lean` for the graph of this file
abbrev pub IsLeanCause : Document → ℕ → ℕ → EquivStop → Type 0
IsLeanCause d limit file (NotOneGraph f quad) = ⊥
IsLeanCause d limit file (SearchLimit f image) = (f ≡ file) × IsPastLimit d limit image
IsLeanCause d limit file (EntailLimit f node) = ⊥
IsLeanCause d limit file NoMemory = Unit {0}

-- no answer of `entails` for g and the graph e of this file
abbrev pub IsEntailCause : Document → Document → ℕ → ℕ → EquivStop → Type 0
IsEntailCause g e limit file (NotOneGraph f quad) = ⊥
IsEntailCause g e limit file (SearchLimit f image) = ⊥
IsEntailCause g e limit file (EntailLimit f node) = (f ≡ file) × IsPastInto (statements e) (statements g) limit node
IsEntailCause g e limit file NoMemory = Unit {0}
