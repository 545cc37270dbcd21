-- Triples without nodes, by the numbers of either graph.
use Rattle.std.proofs.Common.{◌≡◌, ℕ, ◌<◌, ◌⊎◌, ◌↔◌, true, false, List, length, map, get_or, Option, Some, None, is_some, refl, sym, ap, ◌∙◌, subst, inl, inr, arith}
use Rattle.std.specs.List.{All}
use Rattle.std.proofs.lemmas.Option.{slice_get-get_or}
use Rattle.rdf_terms.proofs.Common.{In, Statement, Document, IsInRange, statement, statements, term_at, graph_name_at, In-map, from_In-map, In-at, each-from_All}
use Rattle.rdf_terms.specs.declared.term.Term.{Term}
use Rattle.rdf_terms.specs.declared.term.Term.TheVariants.{Iri, Blank, Literal}
use Rattle.rdf_terms.specs.declared.term.Quad.{Quad}
use Rattle.dataset_index.specs.Mentions.{node_in}
use Rattle.map_search.proofs.Bridging.{number_is}
use Rattle.component_walk.specs.Image.{IsOneGraph}
use Rattle.entail.specs.Entailment.{IsGround}
use Rattle.entail.specs.Numbers.{AreNumbersIn, quad_by}
use Rattle.entail.proofs.Ends.{end_mentioned, mentioned_end}

pub has_node : (t : Term) (o : Option ℕ) → o ≡ node_in t → is_some o ≡ true → (n : ℕ) × (t ≡ Blank n)
has_node (Blank n) o e s = (n, refl)
has_node (Iri t) o e s = cc (e, s)
has_node (Literal l) o e s = cc (e, s)

pub has_no_node : (t : Term) (o : Option ℕ) → o ≡ node_in t → is_some o ≡ false → (n : ℕ) → ¬ (t ≡ Blank n)
has_no_node (Blank m) o e s n h = cc (e, s)
has_no_node (Iri t) o e s n h = cc
has_no_node (Literal l) o e s n h = cc

pub not_ground_at : (terms : List Term) (q : Quad) (n : ℕ) → (term_at terms q.s ≡ Blank n) ⊎ (term_at terms q.o ≡ Blank n) → ¬ (IsGround (statement terms q))
not_ground_at terms q n e ground = ground n (end_mentioned terms q n e)

pub ground_at : (terms : List Term) (q : Quad) → q.g ≡ None → ((n : ℕ) → ¬ (term_at terms q.s ≡ Blank n)) → ((n : ℕ) → ¬ (term_at terms q.o ≡ Blank n)) → IsGround (statement terms q)
ground_at terms q unnamed s o n m = elim (mentioned_end terms q n unnamed m) [ inl e ↦ s n e | inr e ↦ o n e ]

pub is_ground : (st : Statement) → (¬ (¬ (IsGround st))) → IsGround st
is_ground st twice n m = twice (λ ground. ground n m)

pub kept_from_all : (terms : List Term) (G : List Statement) (quads : List Quad) → All (λ q. IsGround (statement terms q) → In (statement terms q) G) quads
    → (st : Statement) → In st (map (statement terms) quads) → IsGround st → In st G
kept_from_all terms G quads all st i =
    let p = from_In-map (statement terms) quads st i in
    subst (λ x. IsGround x → In x G) (sym p.2) (each-from_All (λ q. IsGround (statement terms q) → In (statement terms q) G) quads p.0 all p.1)

module _ (e g : Document) (to : List ℕ) (one : IsOneGraph e) (other : IsOneGraph g) (are : AreNumbersIn e.terms g.terms to) where
  numbered : (k x : ℕ) → k < length e.terms → x < length g.terms → term_at e.terms k ≡ term_at g.terms x → get_or to k 0 ≡ x
  numbered k x l w h = elim (are.each k l) [
    | inl p ↦ number_is g.terms other.terms_once (get_or to k 0) x p.0 w (p.1 ∙ h)
    | inr p ↦ absurd (p.1 (In-at g.terms x (term_at e.terms k) (slice_get-get_or g.terms x (Blank 0) w ∙ ap Some (sym h))))
  ]

  named : (k : ℕ) → k < length e.terms → get_or to k 0 < length g.terms → term_at g.terms (get_or to k 0) ≡ term_at e.terms k
  named k l w = elim (are.each k l) [ inl p ↦ p.1 | inr p ↦ absurd (let a = p.0 in omega arith) ]

  pub quad_there : (q : Quad) → In q e.quads → In (quad_by (λ k. get_or to k 0) q) g.quads ↔ In (statement e.terms q) (statements g)
  quad_there q there = (forth, back)
    where
      r : IsInRange e.terms q
      r = one.in_range q there

      forth : In (quad_by (λ k. get_or to k 0) q) g.quads → In (statement e.terms q) (statements g)
      forth i =
          let w : IsInRange g.terms (quad_by (λ k. get_or to k 0) q) = other.in_range (quad_by (λ k. get_or to k 0) q) i in
          let a = named q.s r.s w.s in
          let b = named q.p r.p w.p in
          let c = named q.o r.o w.o in
          let d : graph_name_at g.terms q.g ≡ graph_name_at e.terms q.g = ap (graph_name_at g.terms) (one.unnamed q there) ∙ sym (ap (graph_name_at e.terms) (one.unnamed q there)) in
          let h : statement g.terms (quad_by (λ k. get_or to k 0) q) ≡ statement e.terms q = λ j. record { subject = a j; predicate = b j; object = c j; graph_name = d j } in
          subst (λ x. In x (statements g)) h (In-map (statement g.terms) g.quads (quad_by (λ k. get_or to k 0) q) i)

      back : In (statement e.terms q) (statements g) → In (quad_by (λ k. get_or to k 0) q) g.quads
      back i =
          let p = from_In-map (statement g.terms) g.quads (statement e.terms q) i in
          let w : IsInRange g.terms p.0 = other.in_range p.0 p.1 in
          let a = numbered q.s p.0.s r.s w.s (ap (λ (x : Statement). x.subject) p.2) in
          let b = numbered q.p p.0.p r.p w.p (ap (λ (x : Statement). x.predicate) p.2) in
          let c = numbered q.o p.0.o r.o w.o (ap (λ (x : Statement). x.object) p.2) in
          let d : q.g ≡ p.0.g = one.unnamed q there ∙ sym (other.unnamed p.0 p.1) in
          let h : quad_by (λ k. get_or to k 0) q ≡ p.0 = λ j. record { s = a j; p = b j; o = c j; g = d j } in
          subst (λ x. In x g.quads) (sym h) p.1
