-- A map of the nodes by the other graph's numbers is a map of them to its terms.
use Rattle.std.proofs.Common.{◌≡◌, ℕ, ◌+◌, ◌<◌, List, length, map, get_or, refl, sym, ap, ◌∙◌, subst, inl, inr, arith}
use Rattle.rdf_terms.proofs.Common.{In, statement, term_at, graph_name_at, IsInRange, In-map, from_In-map}
use Rattle.rdf_terms.specs.declared.term.Term.{Term}
use Rattle.rdf_terms.specs.declared.term.Term.TheVariants.{Iri, Blank, Literal}
use Rattle.rdf_terms.specs.declared.term.Quad.{Quad}
use Rattle.graph_model.specs.Graphs.{mapped, mapped_triple}
use Rattle.graph_model.specs.Components.{Touches}
use Rattle.map_search.specs.Pattern.{carried, IsNodeMap, TouchesOneOf}
use Rattle.entail.proofs.Ends.{mentioned_end}
use Rattle.entail.specs.Entailment.{MapsInto}
use Rattle.entail.specs.Laws.{IsCrossing}
use Rattle.entail.specs.Numbers.{IsNumberIn, number_by, quad_by, renumbered}

module _ (terms others : List Term) (to : List ℕ) (E H : List Quad) (cross : IsCrossing terms others to E H) (walk : List ℕ) where
  abbrev node_number : ℕ → ℕ
  node_number n = length others + 1 + n

  abbrev f : ℕ → ℕ
  f = renumbered terms others to

  pub of_node : (k n : ℕ) → term_at terms k ≡ Blank n → f k ≡ node_number n
  of_node k n e = ap (number_by (length others) (get_or to k 0)) e

  past : (k : ℕ) → In k (map node_number walk) → length others < k
  past k i = (let p = from_In-map node_number walk k i in let e : k ≡ length others + 1 + p.0 = p.2 in omega arith)

  pub touches : (q : Quad) → In q E → Touches walk (statement terms q) → TouchesOneOf (map node_number walk) (quad_by f q)
  touches q there t = record {
    node = node_number t.node;
    there = In-map node_number walk t.node t.there;
    end = elim (mentioned_end terms q t.node (cross.unnamed q there) t.mentioned) [
      | inl a ↦ inl (sym (of_node q.s t.node a))
      | inr b ↦ inr (sym (of_node q.o t.node b))
    ];
  }

  -- a term that is no node goes by its number
  pub kind : (k : ℕ) → (t : Term) → term_at terms k ≡ t → ((n : ℕ) → ¬ (term_at terms k ≡ Blank n)) → f k ≡ get_or to k 0
  kind k (Blank n) e none = absurd (none n e)
  kind k (Iri t) e none = ap (number_by (length others) (get_or to k 0)) e
  kind k (Literal t) e none = ap (number_by (length others) (get_or to k 0)) e

  not_ground : (k n : ℕ) → k < length terms → f k ≡ node_number n → f k ≡ get_or to k 0 → ((j : ℕ) → ¬ (term_at terms k ≡ Blank j)) → ⊥
  not_ground k n l e g none = elim (cross.to_are k l none) [ inl p ↦ (let w = p.0 in absurd (omega arith)) | inr p ↦ (let w = p.0 in absurd (omega arith)) ]

  -- what has the number of a node is that node
  pub own_end : (k n : ℕ) → k < length terms → f k ≡ node_number n → (t : Term) → term_at terms k ≡ t → t ≡ Blank n
  own_end k n l e (Blank j) g =
      let a : f k ≡ length others + 1 + j = ap (number_by (length others) (get_or to k 0)) g in
      let same : j ≡ n = omega arith in
      ap Blank same
  own_end k n l e (Iri t) g = absurd (not_ground k n l e (ap (number_by (length others) (get_or to k 0)) g) (λ j h. cc))
  own_end k n l e (Literal t) g = absurd (not_ground k n l e (ap (number_by (length others) (get_or to k 0)) g) (λ j h. cc))

  -- a map of numbers that keeps what is no node of the walk
  module _ (m : ℕ → ℕ) (kept : (k : ℕ) → (¬ (In k (map node_number walk))) → m k ≡ k) where
    abbrev pub μ : ℕ → Term
    μ n = term_at others (m (node_number n))

    ground : (k : ℕ) → k < length terms → f k ≡ get_or to k 0 → ((n : ℕ) → ¬ (term_at terms k ≡ Blank n)) → m (f k) < length others → term_at others (m (f k)) ≡ term_at terms k
    ground k l e none w = by (cross.to_are k l none)
      where
        keeps : (x : ℕ) → f k ≡ x → (¬ (length others < x)) → m (f k) ≡ x
        keeps x g o = ap m g ∙ kept x (λ i. o (past x i))

        by : IsNumberIn others (term_at terms k) (get_or to k 0) → term_at others (m (f k)) ≡ term_at terms k
        by (inl p) = ap (term_at others) (keeps (get_or to k 0) e (λ h. (let a = p.0 in absurd (omega arith)))) ∙ p.1
        by (inr p) = absurd (let x : m (f k) ≡ length others = keeps (length others) (e ∙ p.0) (λ h. absurd (omega arith)) in omega arith)

    says : (k : ℕ) → k < length terms → m (f k) < length others → (t : Term) → term_at terms k ≡ t → term_at others (m (f k)) ≡ mapped μ t
    says k l w (Blank n) e = ap (λ x. term_at others (m x)) (of_node k n e)
    says k l w (Iri t) e = ground k l (ap (number_by (length others) (get_or to k 0)) e) (λ n g. cc) w ∙ e
    says k l w (Literal t) e = ground k l (ap (number_by (length others) (get_or to k 0)) e) (λ n g. cc) w ∙ e

    predicate : (q : Quad) → In q E → f q.p < length others → term_at others (f q.p) ≡ term_at terms q.p
    predicate q there w = by (cross.to_are q.p (cross.in_range q there).p (cross.predicates q there))
      where
        e : f q.p ≡ get_or to q.p 0
        e = kind q.p (term_at terms q.p) refl (cross.predicates q there)

        by : IsNumberIn others (term_at terms q.p) (get_or to q.p 0) → term_at others (f q.p) ≡ term_at terms q.p
        by (inl p) = ap (term_at others) e ∙ p.1
        by (inr p) = absurd (let x : f q.p ≡ length others = e ∙ p.0 in omega arith)

    -- where it carries a triple into the graph, the map of terms does
    pub lands : (q : Quad) → In q E → In (carried m (quad_by f q)) H → In (mapped_triple μ (statement terms q)) (map (statement others) H)
    lands q there i =
        let r : IsInRange others (carried m (quad_by f q)) = cross.others_in_range (carried m (quad_by f q)) i in
        let a : term_at others (m (f q.s)) ≡ mapped μ (term_at terms q.s) = says q.s (cross.in_range q there).s r.s (term_at terms q.s) refl in
        let b : term_at others (f q.p) ≡ term_at terms q.p = predicate q there r.p in
        let c : term_at others (m (f q.o)) ≡ mapped μ (term_at terms q.o) = says q.o (cross.in_range q there).o r.o (term_at terms q.o) refl in
        let g : graph_name_at others q.g ≡ graph_name_at terms q.g = ap (graph_name_at others) (cross.unnamed q there) ∙ sym (ap (graph_name_at terms) (cross.unnamed q there)) in
        let e : statement others (carried m (quad_by f q)) ≡ mapped_triple μ (statement terms q) = λ j. record { subject = a j; predicate = b j; object = c j; graph_name = g j } in
        subst (λ x. In x (map (statement others) H)) e (In-map (statement others) H (carried m (quad_by f q)) i)

  found_maps : (m : ℕ → ℕ) → (is_map : IsNodeMap (map (quad_by f) E) H (map node_number walk) m)
      → MapsInto (map (statement terms) E) (map (statement others) H) walk (λ n. term_at others (m (node_number n)))
  found_maps m is_map st t =
      let p = from_In-map (statement terms) E st t.0 in
      subst (λ x. In (mapped_triple (λ n. term_at others (m (node_number n))) x) (map (statement others) H)) (sym p.2)
      (lands m is_map.kept p.0 p.1 (is_map.carries (quad_by f p.0) (In-map (quad_by f) E p.0 p.1) (touches p.0 p.1 (subst (Touches walk) p.2 t.1))))

pub found_maps_into : (terms others : List Term) (to : List ℕ) (E H : List Quad) (walk : List ℕ) (m : ℕ → ℕ) → IsCrossing terms others to E H
    → IsNodeMap (map (quad_by (renumbered terms others to)) E) H (map (λ n. length others + 1 + n) walk) m
    → MapsInto (map (statement terms) E) (map (statement others) H) walk (λ n. term_at others (m (length others + 1 + n)))
found_maps_into terms others to E H walk m cross is_map = found_maps terms others to E H cross walk m is_map
