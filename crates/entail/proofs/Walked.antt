-- What a walk through a component is by the numbers of the other graph.
use Rattle.std.proofs.Common.{◌≡◌, ℕ, ◌+◌, ◌<◌, ◌⊎◌, List, [], ◌∷◌, length, map, get_or, refl, sym, ap, ◌∙◌, subst, inl, inr, arith}
use Rattle.std.specs.List.{All}
use Rattle.rdf_terms.proofs.Common.{In, All-from_each, AreDistinct, Document, mentions, statement, statements, term_at, In-map, from_In-map, each-from_All, AreDistinct-map, map-agree, place_within}
use Rattle.rdf_terms.specs.Terms.{IsIri, IsValidStatement}
use Rattle.rdf_terms.specs.declared.term.Term.TheVariants.{Blank}
use Rattle.rdf_terms.specs.declared.term.Quad.{Quad}
use Rattle.map_search.specs.Pattern.{AreRows, IsAskedOf, IsOtherEnd, TouchesOneOf}
use Rattle.map_search.specs.declared.rows.End.{End}
use Rattle.map_search.specs.declared.rows.End.TheVariants.{Fixed, Place}
use Rattle.map_search.specs.declared.rows.Condition.{Condition}
use Rattle.map_search.specs.declared.rows.Condition.TheVariants.{Subject, Object, Both, SomeSubject, SomeObject}
use Rattle.map_search.proofs.Bridging.{node_of, number_is, number_of}
use Rattle.component_walk.specs.Image.{IsOneGraph, AreTermsOf}
use Rattle.component_walk.specs.Walk.{IsWalkFrom}
use Rattle.dataset_index.proofs.Building.{AreDistinct-from_map}
use Rattle.component_walk.proofs.AtNodes.{statement_within}
use Rattle.component_walk.proofs.Walks.{walk_closed, walk_once, walk_used}
use Rattle.entail.specs.Laws.{AreOwnNodes, IsCrossing, KeepsApart}
use Rattle.entail.specs.Numbers.{AreNumbersIn, condition_by, end_by, number_by, renumbered}
use Rattle.entail.proofs.Landing.{kind, own_end}
use Rattle.entail.proofs.Ends.{end_mentioned, mentioned_end}

-- ---- the nodes of a walk

module _ (e : Document) (one : IsOneGraph e) (start : ℕ) (walk : List ℕ) (w : IsWalkFrom (statements e) start walk) where
  pub walk_within : All (λ n. n < length e.labels) walk
  walk_within = All-from_each (λ n. n < length e.labels) walk (λ n i. (let u = walk_used (statements e) start walk w n i in statement_within e one u.statement u.there n u.mentioned))

  pub own_once : (own : List ℕ) → AreTermsOf e walk own → AreDistinct own
  own_once own own_are =
      AreDistinct-from_map (term_at e.terms) own (subst AreDistinct (sym own_are) (AreDistinct-map Blank walk (λ x y i j h. same x y h) (walk_once (statements e) start walk w)))
    where
      same : (x y : ℕ) → Blank x ≡ Blank y → x ≡ y
      same x y h = cc

-- ---- by the numbers of the other graph

module _ (e g : Document) (to : List ℕ) (one : IsOneGraph e) (other : IsOneGraph g) (are : AreNumbersIn e.terms g.terms to) where
  pub is_crossing : IsCrossing e.terms g.terms to e.quads g.quads
  is_crossing = record {
    in_range = one.in_range;
    others_in_range = other.in_range;
    unnamed = one.unnamed;
    predicates = λ q i n h. (let v = each-from_All (IsValidStatement (length e.labels)) (statements e) (statement e.terms q) one.document.draft.valid (In-map (statement e.terms) e.quads q i) in
        subst IsIri h v.predicate_kind);
    to_are = λ k l none. are.each k l;
  }

  abbrev f : ℕ → ℕ
  f = renumbered e.terms g.terms to

  abbrev node_number : ℕ → ℕ
  node_number n = length g.terms + 1 + n

  renumbered_nodes : (own walk : List ℕ) → map (term_at e.terms) own ≡ map Blank walk → map f own ≡ map node_number walk
  renumbered_nodes [] [] h = refl
  renumbered_nodes [] (n ∷ ns) h = cc
  renumbered_nodes (k ∷ ks) [] h = cc
  renumbered_nodes (k ∷ ks) (n ∷ ns) h =
      let a : term_at e.terms k ≡ Blank n = cc in
      let b : map (term_at e.terms) ks ≡ map Blank ns = cc in
      let c : f k ≡ node_number n = ap (number_by (length g.terms) (get_or to k 0)) a in
      let d : map f ks ≡ map node_number ns = renumbered_nodes ks ns b in
      λ i. c i ∷ d i

  module _ (start : ℕ) (walk own : List ℕ) (w : IsWalkFrom (statements e) start walk) (own_are : AreTermsOf e walk own) (within : (k : ℕ) → In k own → k < length e.terms) where
    pub own_renumbered : map f own ≡ map node_number walk
    own_renumbered = renumbered_nodes own walk own_are

    pub numbers_once : AreDistinct (map node_number walk)
    numbers_once = AreDistinct-map node_number walk (λ x y i j h. omega arith) (walk_once (statements e) start walk w)

    pub are_own_nodes : AreOwnNodes e.terms e.quads walk
    are_own_nodes = record {
      used =
          λ n i. (let u = walk_used (statements e) start walk w n i in let p = from_In-map (statement e.terms) e.quads u.statement u.there in
          (p.0, p.1, mentioned_end e.terms p.0 n (one.unnamed p.0 p.1) (ap (λ st. mentions n st) (sym p.2) ∙ u.mentioned)));
      closed = λ q there n k i a b. walk_closed (statements e) start walk w (statement e.terms q) (In-map (statement e.terms) e.quads q there) n k (end_mentioned e.terms q n a)
          (end_mentioned e.terms q k b) i;
    }

    -- a node of the walk has its number among the walk's
    own_number : (x n : ℕ) → x < length e.terms → term_at e.terms x ≡ Blank n → In n walk → In x own
    own_number x n l h i =
        let p = number_of e.terms one.terms_once own walk own_are n i in
        let same : p.0 ≡ x = number_is e.terms one.terms_once p.0 x (within p.0 p.1) l (sym p.2 ∙ sym h) in
        subst (λ k. In k own) same p.1

    pub keeps_apart : KeepsApart f e.quads own
    keeps_apart = record {
      once = subst AreDistinct (sym own_renumbered) numbers_once;
      apart = λ q there x end i. apart q there x (end_within q there x end) (subst (λ l. In (f x) l) own_renumbered i);
    }
      where
        end_within : (q : Quad) → In q e.quads → (x : ℕ) → (x ≡ q.s) ⊎ (x ≡ q.o) → x < length e.terms
        end_within q there x (inl h) = subst (λ k. k < length e.terms) (sym h) (one.in_range q there).s
        end_within q there x (inr h) = subst (λ k. k < length e.terms) (sym h) (one.in_range q there).o

        apart : (q : Quad) → In q e.quads → (x : ℕ) → x < length e.terms → In (f x) (map node_number walk) → In x own
        apart q there x l i =
            let p = from_In-map node_number walk (f x) i in
            own_number x p.0 l (own_end e.terms g.terms to e.quads g.quads is_crossing walk x p.0 l p.2 (term_at e.terms x) refl) p.1

    -- ---- conditions hold no node's number

    module _ (q : Quad) (there : In q e.quads) (touches : TouchesOneOf own q) where
      node : (n : ℕ) × In n walk × ((term_at e.terms q.s ≡ Blank n) ⊎ (term_at e.terms q.o ≡ Blank n))
      node =
          let p = node_of e.terms one.terms_once own walk own_are touches.node touches.there in
          (p.0, p.1, elim touches.end [ inl h ↦ inl (ap (term_at e.terms) (sym h) ∙ p.2) | inr h ↦ inr (ap (term_at e.terms) (sym h) ∙ p.2) ])

      ground_end : (x : ℕ) → x < length e.terms → ((n : ℕ) → term_at e.terms x ≡ Blank n → (term_at e.terms q.s ≡ Blank n) ⊎ (term_at e.terms q.o ≡ Blank n)) → (¬ (In x own)) → get_or to x 0 ≡ f x
      ground_end x l end out = sym (kind e.terms g.terms to e.quads g.quads is_crossing walk x (term_at e.terms x) refl
          (λ n h. out (own_number x n l h (are_own_nodes.closed q there node.0 n node.1 node.2 (end n h)))))

      pub subject_end : (¬ (In q.s own)) → get_or to q.s 0 ≡ f q.s
      subject_end = ground_end q.s (one.in_range q there).s (λ n h. inl h)

      pub object_end : (¬ (In q.o own)) → get_or to q.o 0 ≡ f q.o
      object_end = ground_end q.o (one.in_range q there).o (λ n h. inr h)

      pub predicate_end : get_or to q.p 0 ≡ f q.p
      predicate_end = sym (kind e.terms g.terms to e.quads g.quads is_crossing walk q.p (term_at e.terms q.p) refl (is_crossing.predicates q there))

    abbrev by_list : ℕ → ℕ
    by_list k = get_or to k 0

    same_end : (k : ℕ) (x : ℕ) (c : End) → IsOtherEnd own k c x → ((¬ (In x own)) → by_list x ≡ f x) → end_by by_list c ≡ end_by f c
    same_end k x (Fixed n) o h = ap Fixed (ap by_list (sym o.0) ∙ (h o.1 ∙ ap f o.0))
    same_end k x (Place j) o h = refl

    same_condition : (k : ℕ) (c : Condition) → IsAskedOf e.quads own k c → condition_by by_list c ≡ condition_by f c
    same_condition k (Subject p o) a =
        let h : by_list p ≡ f p = ap by_list (sym a.asked.1) ∙ (predicate_end a.triple a.there a.touches ∙ ap f a.asked.1) in
        let r = same_end k a.triple.o o a.asked.2 (object_end a.triple a.there a.touches) in
        λ i. Subject (h i) (r i)
    same_condition k (Object s p) a =
        let h : by_list p ≡ f p = ap by_list (sym a.asked.1) ∙ (predicate_end a.triple a.there a.touches ∙ ap f a.asked.1) in
        let r = same_end k a.triple.s s a.asked.2 (subject_end a.triple a.there a.touches) in
        λ i. Object (r i) (h i)
    same_condition k (Both p) a = ap Both (ap by_list (sym a.asked.1) ∙ (predicate_end a.triple a.there a.touches ∙ ap f a.asked.1))
    same_condition k (SomeSubject p) a = ap SomeSubject (ap by_list (sym a.asked.1) ∙ (predicate_end a.triple a.there a.touches ∙ ap f a.asked.1))
    same_condition k (SomeObject p) a = ap SomeObject (ap by_list (sym a.asked.1) ∙ (predicate_end a.triple a.there a.touches ∙ ap f a.asked.1))

    pub same_rows : (rows : List (List Condition)) → AreRows e.quads own rows → map (map (condition_by by_list)) rows ≡ map (map (condition_by f)) rows
    same_rows rows rows_are = map-agree (map (condition_by by_list)) (map (condition_by f)) rows (λ row i. by row (place_within rows row [] i))
      where
        by : (row : List Condition) → (k : ℕ) × (k < length rows) × (get_or rows k [] ≡ row) → map (condition_by by_list) row ≡ map (condition_by f) row
        by row p = map-agree (condition_by by_list) (condition_by f) row (λ c j. same_condition p.0 c (rows_are.only p.0 p.1 c (subst (λ r. In c r) (sym p.2) j)))
