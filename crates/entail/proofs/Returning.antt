-- A map of the nodes to the other graph's terms is a map of them by its numbers.
use Rattle.std.proofs.Common.{◌≡◌, ℕ, ◌+◌, ◌<◌, ◌⊎◌, List, length, map, get_or, None, Some, refl, sym, ap, ◌∙◌, subst, inl, inr, arith}
use Rattle.std.proofs.lemmas.Option.{slice_get-get_or}
use Rattle.rdf_terms.proofs.Common.{In, AreDistinct, Statement, statement, term_at, IsInRange, In-map, from_In-map, In-at, decide_in}
use Rattle.rdf_terms.specs.declared.term.Term.{Term}
use Rattle.rdf_terms.specs.declared.term.Term.TheVariants.{Iri, Blank, Literal}
use Rattle.rdf_terms.specs.declared.term.Quad.{Quad}
use Rattle.graph_model.specs.Graphs.{mapped, mapped_triple}
use Rattle.graph_model.specs.Components.{Touches}
use Rattle.map_search.specs.Pattern.{carried}
use Rattle.map_search.proofs.Bridging.{number_is}
use Rattle.entail.proofs.Ends.{end_mentioned}
use Rattle.entail.proofs.Landing.{kind, own_end}
use Rattle.entail.specs.Entailment.{MapsInto}
use Rattle.entail.specs.Laws.{AreOwnNodes, IsCrossing}
use Rattle.map_search.specs.Pattern.{IsNodeMap, TouchesOneOf}
use Rattle.rdf_terms.proofs.Common.{place_in}
use Rattle.std.proofs.lemmas.Option.{slice_get_within, get_or_from_slice_get}
use Rattle.entail.specs.Numbers.{number_by, quad_by, renumbered}

-- a number that says where a term stands is its number
module _ (terms others : List Term) (to : List ℕ) (E H : List Quad) (cross : IsCrossing terms others to E H) (once : AreDistinct others) where
  abbrev f : ℕ → ℕ
  f = renumbered terms others to

  found : (k x : ℕ) → k < length terms → ((n : ℕ) → ¬ (term_at terms k ≡ Blank n)) → x < length others → term_at others x ≡ term_at terms k → get_or to k 0 ≡ x
  found k x l none w e = elim (cross.to_are k l none) [
    | inl p ↦ number_is others once (get_or to k 0) x p.0 w (p.1 ∙ sym e)
    | inr p ↦ absurd (p.1 (In-at others x (term_at terms k) (slice_get-get_or others x (Blank 0) w ∙ ap Some e)))
  ]

  -- a map by numbers that takes each node to the number of its image carries the triple to the one that is there
  module _ (μ : ℕ → Term) (m : ℕ → ℕ) (walk : List ℕ) (at_node : (n x : ℕ) → In n walk → x < length others → term_at others x ≡ μ n → m (length others + 1 + n) ≡ x)
      (kept : (k : ℕ) → k < length others + 1 → m k ≡ k) where
    goes : (k x : ℕ) → k < length terms → x < length others → (t : Term) → term_at terms k ≡ t → ((n : ℕ) → term_at terms k ≡ Blank n → In n walk) → term_at others x ≡ mapped μ t → m (f k) ≡ x
    goes k x l w (Blank n) e end s = ap m (ap (number_by (length others) (get_or to k 0)) e) ∙ at_node n x (end n e) w s
    goes k x l w (Iri t) e end s = ap m (ap (number_by (length others) (get_or to k 0)) e ∙ found k x l (λ n g. cc) w (s ∙ sym e)) ∙ kept x (omega arith)
    goes k x l w (Literal t) e end s = ap m (ap (number_by (length others) (get_or to k 0)) e ∙ found k x l (λ n g. cc) w (s ∙ sym e)) ∙ kept x (omega arith)

    pub carried_is : (q h : Quad) → In q E → In h H → h.g ≡ None → ((n : ℕ) → (term_at terms q.s ≡ Blank n) ⊎ (term_at terms q.o ≡ Blank n) → In n walk)
        → statement others h ≡ mapped_triple μ (statement terms q) → carried m (quad_by f q) ≡ h
    carried_is q h there here unnamed among e =
        let r : IsInRange terms q = cross.in_range q there in
        let w : IsInRange others h = cross.others_in_range h here in
        let a : m (f q.s) ≡ h.s = goes q.s h.s r.s w.s (term_at terms q.s) refl (λ n g. among n (inl g)) (ap (λ (st : Statement). st.subject) e) in
        let none : (n : ℕ) → ¬ (term_at terms q.p ≡ Blank n) = cross.predicates q there in
        let b : f q.p ≡ h.p = kind terms others to E H cross walk q.p (term_at terms q.p) refl none ∙ found q.p h.p r.p none w.p (ap (λ (st : Statement). st.predicate) e) in
        let c : m (f q.o) ≡ h.o = goes q.o h.o r.o w.o (term_at terms q.o) refl (λ n g. among n (inr g)) (ap (λ (st : Statement). st.object) e) in
        let g : q.g ≡ h.g = cross.unnamed q there ∙ sym unnamed in
        λ i. record { s = a i; p = b i; o = c i; g = g i }

module _ (terms others : List Term) (to : List ℕ) (E H : List Quad) (cross : IsCrossing terms others to E H) (once : AreDistinct others) (unnamed : (q : Quad) → In q H → q.g ≡ None)
    (walk : List ℕ) (own : AreOwnNodes terms E walk) (μ : ℕ → Term) (maps : MapsInto (map (statement terms) E) (map (statement others) H) walk μ) where
  abbrev node_number : ℕ → ℕ
  node_number n = length others + 1 + n

  touched : (q : Quad) (n : ℕ) → In n walk → (term_at terms q.s ≡ Blank n) ⊎ (term_at terms q.o ≡ Blank n) → Touches walk (statement terms q)
  touched q n i e = record {
    node = n;
    there = i;
    mentioned = end_mentioned terms q n e;
  }

  landed : (q : Quad) (n : ℕ) → In q E → In n walk → (term_at terms q.s ≡ Blank n) ⊎ (term_at terms q.o ≡ Blank n) → (h : Quad) × In h H × (mapped_triple μ (statement terms q) ≡ statement others h)
  landed q n there i e = from_In-map (statement others) H (mapped_triple μ (statement terms q)) (maps (statement terms q) (In-map (statement terms) E q there, touched q n i e))

  image_there : (n : ℕ) → In n walk → In (μ n) others
  image_there n i =
      let u = own.used n i in
      let h = landed u.0 n u.1 i u.2 in
      let w : IsInRange others h.0 = cross.others_in_range h.0 h.1 in
      elim u.2 [
        | inl s ↦ In-at others h.0.s (μ n) (slice_get-get_or others h.0.s (Blank 0) w.s ∙ ap Some (sym (ap (λ (st : Statement). st.subject) h.2) ∙ ap (mapped μ) s))
        | inr o ↦ In-at others h.0.o (μ n) (slice_get-get_or others h.0.o (Blank 0) w.o ∙ ap Some (sym (ap (λ (st : Statement). st.object) h.2) ∙ ap (mapped μ) o))
      ]

  chosen : (k : ℕ) → In k (map node_number walk) ⊎ (¬ (In k (map node_number walk))) → ℕ
  chosen k (inl i) = (let p = from_In-map node_number walk k i in (place_in others (μ p.0) (image_there p.0 p.1)).0)
  chosen k (inr o) = k

  pub numbers : ℕ → ℕ
  numbers k = chosen k (decide_in k (map node_number walk))

  at_chosen : (n x : ℕ) (d : In (node_number n) (map node_number walk) ⊎ (¬ (In (node_number n) (map node_number walk)))) → In n walk → x < length others → term_at others x ≡ μ n
      → chosen (node_number n) d ≡ x
  unfolding chosen
  at_chosen n x (inr o) i w e = absurd (o (In-map node_number walk n i))
  at_chosen n x (inl j) i w e =
      let p = from_In-map node_number walk (node_number n) j in
      let same : p.0 ≡ n = (let s : length others + 1 + n ≡ length others + 1 + p.0 = p.2 in omega arith) in
      let q = place_in others (μ p.0) (image_there p.0 p.1) in
      number_is others once q.0 x (slice_get_within others q.0 (μ p.0) q.1) w (get_or_from_slice_get others q.0 (μ p.0) (Blank 0) q.1 ∙ (ap μ same ∙ sym e))

  else_kept : (k : ℕ) (d : In k (map node_number walk) ⊎ (¬ (In k (map node_number walk)))) → (¬ (In k (map node_number walk))) → chosen k d ≡ k
  unfolding chosen
  else_kept k (inl i) o = absurd (o i)
  else_kept k (inr n) o = refl

  low : (k : ℕ) → k < length others + 1 → ¬ (In k (map node_number walk))
  low k l i = (let p = from_In-map node_number walk k i in let e : k ≡ length others + 1 + p.0 = p.2 in omega arith)

  touched_end : (q : Quad) → In q E → TouchesOneOf (map node_number walk) (quad_by (renumbered terms others to) q)
      → (n : ℕ) × In n walk × ((term_at terms q.s ≡ Blank n) ⊎ (term_at terms q.o ≡ Blank n))
  touched_end q there t =
      let p = from_In-map node_number walk t.node t.there in
      let r : IsInRange terms q = cross.in_range q there in (
        p.0,
        p.1,
        elim t.end [
          | inl e ↦ inl (own_end terms others to E H cross walk q.s p.0 r.s (sym e ∙ p.2) (term_at terms q.s) refl)
          | inr e ↦ inr
              (own_end terms others to E H cross walk q.o p.0 r.o (sym e ∙ p.2) (term_at terms q.o) refl)
        ],
      )

  pub is_node_map : IsNodeMap (map (quad_by (renumbered terms others to)) E) H (map node_number walk) numbers
  unfolding numbers
  is_node_map = record {
    kept = λ k o. else_kept k (decide_in k (map node_number walk)) o;
    carries = λ q i t. (let p = from_In-map (quad_by (renumbered terms others to)) E q i in subst (λ x. In (carried numbers x) H) (sym p.2)
        (at p.0 p.1 (touched_end p.0 p.1 (subst (TouchesOneOf (map node_number walk)) p.2 t))));
  }
    where
      at : (q : Quad) → In q E → (n : ℕ) × In n walk × ((term_at terms q.s ≡ Blank n) ⊎ (term_at terms q.o ≡ Blank n)) → In (carried numbers (quad_by (renumbered terms others to) q)) H
      at q there u =
          let h = landed q u.0 there u.1 u.2 in
          let e : carried numbers (quad_by (renumbered terms others to) q) ≡ h.0 =
          carried_is terms others to E H cross once μ numbers walk (λ n x i w f. at_chosen n x (decide_in (node_number n) (map node_number walk)) i w f)
          (λ k l. else_kept k (decide_in k (map node_number walk)) (low k l)) q h.0 there h.1 (unnamed h.0 h.1) (λ n f. own.closed q there u.0 n u.1 u.2 f) (sym h.2) in
          subst (λ x. In x H) (sym e) h.1

pub maps_are_found : (terms others : List Term) (to : List ℕ) (E H : List Quad) (walk : List ℕ) (μ : ℕ → Term) → IsCrossing terms others to E H → AreDistinct others
    → ((q : Quad) → In q H → q.g ≡ None)
    → AreOwnNodes terms E walk → MapsInto (map (statement terms) E) (map (statement others) H) walk μ
    → (m : ℕ → ℕ) × IsNodeMap (map (quad_by (renumbered terms others to)) E) H (map (λ n. length others + 1 + n) walk) m
maps_are_found terms others to E H walk μ cross once unnamed own maps = (numbers terms others to E H cross once unnamed walk own μ maps, is_node_map terms others to E H cross once unnamed walk own μ maps)
