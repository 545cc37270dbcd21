-- Entailment is reflexive and transitive, and instance maps are made part by part.
use Rattle.std.proofs.Common.{◌≡◌, ℕ, ◌⊎◌, true, List, [], ◌∷◌, refl, sym, subst, inl, inr}
use Rattle.rdf_terms.proofs.Common.{In, Statement, mentions, IsUsed, decide_in}
use Rattle.rdf_terms.specs.declared.term.Term.{Term}
use Rattle.rdf_terms.specs.declared.term.Term.TheVariants.{Blank}
use Rattle.graph_model.specs.Graphs.{mapped_triple, composed}
use Rattle.graph_model.proofs.Maps.{maps_compose, mapped_triple-kept, mapped_triple-same}
use Rattle.graph_model.proofs.Restricting.{in_triple}
use Rattle.entail.specs.Entailment.{AreWithin, Entails, IsGround, IsInPart, IsPastInto, MapsInto, Part}

pub parts_are_entailed : (G H : List Statement) → ((st : Statement) → In st H → In st G) → Entails G H
parts_are_entailed G H within = (Blank, λ st i. subst (λ x. In x G) (sym (mapped_triple-kept Blank st (λ n e. refl))) (within st i))

pub entails_itself : (G : List Statement) → Entails G G
entails_itself G = parts_are_entailed G G (λ st i. i)

pub entailment_composes : (G H I : List Statement) → Entails G H → Entails H I → Entails G I
entailment_composes G H I a b = (composed b.0 a.0, maps_compose b.0 a.0 I H G b.1 a.1)

pub components_are_mapped : (G E : List Statement) → Entails G E → ((nodes : List ℕ) → (μ : ℕ → Term) × MapsInto E G nodes μ) × ((st : Statement) → In st E → IsGround st → In st G)
components_are_mapped G E a = (
  λ nodes. (a.0, λ st t. a.1 st t.0),
  λ st i ground. subst (λ x. In x G) (mapped_triple-kept a.0 st (λ n e. absurd (ground n e))) (a.1 st i),
)

pub limit_needs_a_cause : (E G : List Statement) (limit node : ℕ) → AreWithin E G limit → ¬ (IsPastInto E G limit node)
limit_needs_a_cause E G limit node within p = within p.walk p.is_walk p.past

-- ---- gluing: a node is taken where the first part that has it takes it

module _ (G E : List Statement) where
  chosen : (n : ℕ) (p : Part E G) → In n p.nodes ⊎ (¬ (In n p.nodes)) → Term → Term
  chosen n p (inl h) t = p.μ n
  chosen n p (inr h) t = t

  glued : List (Part E G) → ℕ → Term
  glued [] n = Blank n
  glued (p ∷ ps) n = chosen n p (decide_in n p.nodes) (glued ps n)

  chosen-in : (n : ℕ) (p : Part E G) (d : In n p.nodes ⊎ (¬ (In n p.nodes))) (t : Term) → In n p.nodes → chosen n p d t ≡ p.μ n
  unfolding chosen
  chosen-in n p (inl h) t i = refl
  chosen-in n p (inr h) t i = absurd (h i)

  chosen-out : (n : ℕ) (p : Part E G) (d : In n p.nodes ⊎ (¬ (In n p.nodes))) (t : Term) → (¬ (In n p.nodes)) → chosen n p d t ≡ t
  unfolding chosen
  chosen-out n p (inl h) t o = absurd (o h)
  chosen-out n p (inr h) t o = refl

  carried : (parts : List (Part E G)) (st : Statement) (x : ℕ) → In st E → mentions x st ≡ true → IsInPart x parts → In (mapped_triple (glued parts) st) G
  unfolding glued
  carried [] st x there e i = absurd i
  carried (p ∷ ps) st x there e i = by (decide_in x p.nodes) i (carried ps st x there e)
    where
      by : In x p.nodes ⊎ (¬ (In x p.nodes)) → In x p.nodes ⊎ IsInPart x ps → (IsInPart x ps → In (mapped_triple (glued ps) st) G) → In (mapped_triple (glued (p ∷ ps)) st) G
      by (inl h) j ih =
          subst (λ w. In w G)
          (sym (mapped_triple-same (glued (p ∷ ps)) p.μ st (λ n f. chosen-in n p (decide_in n p.nodes) (glued ps n) (p.closed st there x n e f h))))
          (p.maps st (there, record { node = x; there = h; mentioned = e }))
      by (inr o) (inl h) ih = absurd (o h)
      by (inr o) (inr j) ih =
          subst (λ w. In w G)
          (sym (mapped_triple-same (glued (p ∷ ps)) (glued ps) st (λ n f. chosen-out n p (decide_in n p.nodes) (glued ps n) (λ k. o (p.closed st there n x f e k)))))
          (ih j)

  pub parts_glue : (parts : List (Part E G)) → ((n : ℕ) → IsUsed E n → IsInPart n parts) → ((st : Statement) → In st E → IsGround st → In st G) → Entails G E
  parts_glue parts all ground = (glued parts, λ st i. by st i (in_triple (λ n. Unit {0}) (λ n. inl tt) st))
    where
      by : (st : Statement) → In st E → ((x : ℕ) × Unit {0} × (mentions x st ≡ true)) ⊎ ((x : ℕ) → mentions x st ≡ true → ¬ (Unit {0})) → In (mapped_triple (glued parts) st) G
      by st i (inl p) = carried parts st p.0 i p.2 (all p.0 (record { statement = st; there = i; mentioned = p.2 }))
      by st i (inr none) = subst (λ x. In x G) (sym (mapped_triple-kept (glued parts) st (λ n e. absurd (none n e tt)))) (ground st i (λ n e. none n e tt))
