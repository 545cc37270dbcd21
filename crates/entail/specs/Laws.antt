-- Statements of the laws.
use Rattle.std.specs.Prelude.{◌≡◌, ℕ, ◌+◌, ◌<◌, ◌⊎◌, List, map, length, None, slice_index}
use Rattle.rdf_terms.specs.Vocabulary.{In, AreDistinct, Statement, IsUsed, IsInRange, statement, term_at}
use Rattle.rdf_terms.specs.declared.term.Term.{Term}
use Rattle.rdf_terms.specs.declared.term.Term.TheVariants.{Blank}
use Rattle.rdf_terms.specs.declared.term.Quad.{Quad}
use Rattle.map_search.specs.declared.rows.Condition.{Condition}
use Rattle.map_search.specs.Pattern.{AreRows, EachIsAsked, IsNodeMap}
use Rattle.entail.specs.Numbers.{IsNumberIn, condition_by, quad_by, renumbered}
use Rattle.entail.specs.Entailment.{Entails, IsGround, IsInPart, IsPastInto, AreWithin, MapsInto, Part}

abbrev pub EntailsItself : Type 0
EntailsItself = (G : List Statement) → Entails G G

abbrev pub EntailmentComposes : Type 0
EntailmentComposes = (G H I : List Statement) → Entails G H → Entails H I → Entails G I

-- a part of a graph is entailed by it
abbrev pub PartsAreEntailed : Type 0
PartsAreEntailed = (G H : List Statement) → ((st : Statement) → In st H → In st G) → Entails G H

-- an instance map maps each component, and keeps each triple without nodes
abbrev pub ComponentsAreMapped : Type 0
ComponentsAreMapped = (G E : List Statement) → Entails G E
    → ((nodes : List ℕ) → (μ : ℕ → Term) × MapsInto E G nodes μ) × ((st : Statement) → In st E → IsGround st → In st G)

-- maps of parts that hold all nodes, and the triples without nodes, make an instance map (RDF 1.1 Semantics, section
-- 5.3: interpolation, part by part)
abbrev pub PartsGlue : Type 0
PartsGlue = (G E : List Statement) (parts : List (Part E G)) → ((n : ℕ) → IsUsed E n → IsInPart n parts)
    → ((st : Statement) → In st E → IsGround st → In st G) → Entails G E

-- the limit is not passed where no component passes it
abbrev pub LimitNeedsACause : Type 0
LimitNeedsACause = (E G : List Statement) (limit node : ℕ) → AreWithin E G limit → ¬ (IsPastInto E G limit node)

-- the function tells the nodes from one another, and from the other ends of triples
pub record KeepsApart (f : ℕ → ℕ) (G : List Quad) (nodes : List ℕ) : Type 0 where
  pub once : AreDistinct (map f nodes)
  pub apart : (q : Quad) → In q G → (x : ℕ) → (x ≡ q.s) ⊎ (x ≡ q.o) → In (f x) (map f nodes) → In x nodes

-- rows by other numbers are rows of the graph by other numbers
abbrev pub RowsRenumbered : Type 0
RowsRenumbered = (f : ℕ → ℕ) (G : List Quad) (nodes : List ℕ) (rows : List (List Condition)) → KeepsApart f G nodes
    → AreRows G nodes rows → EachIsAsked rows
    → AreRows (map (quad_by f) G) (map f nodes) (map (map (condition_by f)) rows)
    × EachIsAsked (map (map (condition_by f)) rows)

-- two graphs by numbers, and for each term of the first that is no node its number in the second
pub record IsCrossing (terms others : List Term) (to : List ℕ) (E H : List Quad) : Type 0 where
  pub in_range : (q : Quad) → In q E → IsInRange terms q
  pub others_in_range : (q : Quad) → In q H → IsInRange others q
  pub unnamed : (q : Quad) → In q E → q.g ≡ None
  pub predicates : (q : Quad) → In q E → (n : ℕ) → ¬ (term_at terms q.p ≡ Blank n)
  pub to_are : (k : ℕ) → k < length terms → ((n : ℕ) → ¬ (term_at terms k ≡ Blank n))
      → IsNumberIn others (term_at terms k) (slice_index to k)

-- what is found by the numbers of the second graph is a map to its terms
abbrev pub FoundMapsInto : Type 0
FoundMapsInto = (terms others : List Term) (to : List ℕ) (E H : List Quad) (walk : List ℕ) (m : ℕ → ℕ)
    → IsCrossing terms others to E H
    → IsNodeMap (map (quad_by (renumbered terms others to)) E) H (map (λ n. length others + 1 + n) walk) m
    → MapsInto (map (statement terms) E) (map (statement others) H) walk
    (λ n. term_at others (m (length others + 1 + n)))

-- the nodes each stand in a triple, and a triple with one of them has no others
pub record AreOwnNodes (terms : List Term) (E : List Quad) (walk : List ℕ) : Type 0 where
  pub used : (n : ℕ) → In n walk
      → (q : Quad) × In q E × ((term_at terms q.s ≡ Blank n) ⊎ (term_at terms q.o ≡ Blank n))
  pub closed : (q : Quad) → In q E → (n k : ℕ) → In n walk
      → (term_at terms q.s ≡ Blank n) ⊎ (term_at terms q.o ≡ Blank n)
      → (term_at terms q.s ≡ Blank k) ⊎ (term_at terms q.o ≡ Blank k) → In k walk

-- a map of the nodes to terms is one by the numbers of the second graph
abbrev pub MapsAreFound : Type 0
MapsAreFound = (terms others : List Term) (to : List ℕ) (E H : List Quad) (walk : List ℕ) (μ : ℕ → Term)
    → IsCrossing terms others to E H → AreDistinct others → ((q : Quad) → In q H → q.g ≡ None)
    → AreOwnNodes terms E walk
    → MapsInto (map (statement terms) E) (map (statement others) H) walk μ
    → (m : ℕ → ℕ) × IsNodeMap (map (quad_by (renumbered terms others to)) E) H (map (λ n. length others + 1 + n) walk) m
