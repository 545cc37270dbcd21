-- What `entails` answers.
use Rattle.std.specs.Prelude.{◌≡◌, ℕ, ◌<◌, ◌⊎◌, List, length, Option, Some, None, slice_index, All}
use Rattle.rdf_terms.specs.Vocabulary.{Document, statements, term_at}
use Rattle.rdf_terms.specs.declared.term.Term.{Term}
use Rattle.graph_model.specs.Graphs.{IsGraph}
use Rattle.component_walk.specs.Named.{IsFirstNamed}
use Rattle.entail.specs.Entailment.{Entails, IsInstanceMap, IsPastInto}
use Rattle.entail.specs.declared.form.InstanceMap.{InstanceMap}
use Rattle.entail.specs.declared.form.EntailStop.{EntailStop}
use Rattle.entail.specs.declared.form.EntailStop.TheVariants.{NotOneGraph, EntailLimit, NoMemory}

-- the map that takes each node to the term with the number at its place
abbrev pub map_by : List Term → List ℕ → ℕ → Term
map_by terms numbers n = term_at terms (slice_index numbers n)

-- neither has a quad with a graph name
abbrev pub AreGraphs : Document → Document → Type 0
AreGraphs g e = IsGraph (statements g) × IsGraph (statements e)

-- the list holds for each node of e the number of a term of g, and carries e into g
pub record IsMapFound (g e : Document) (map : InstanceMap) : Type 0 where
  pub graphs : AreGraphs g e
  pub count : length map.terms ≡ length e.labels
  pub in_range : All (λ t. t < length g.terms) map.terms
  pub is_map : IsInstanceMap (statements g) (statements e) (map_by g.terms map.terms)

abbrev pub IsEntailAnswer : Document → Document → Option InstanceMap → Type 0
IsEntailAnswer g e (Some map) = IsMapFound g e map
IsEntailAnswer g e None = AreGraphs g e × (¬ (Entails (statements g) (statements e)))

abbrev pub IsEntailStop : Document → Document → ℕ → EntailStop → Type 0
IsEntailStop g e limit (NotOneGraph file quad) =
    ((file ≡ 0) × IsFirstNamed g.quads quad) ⊎ ((file ≡ 1) × IsGraph (statements g) × IsFirstNamed e.quads quad)
IsEntailStop g e limit (EntailLimit node) = AreGraphs g e × IsPastInto (statements e) (statements g) limit node
IsEntailStop g e limit NoMemory = Unit {0}
