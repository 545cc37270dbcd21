-- The conditions of the triples that are left at each node are the rows of a search.
use Rattle.std.proofs.Common.{◌≡◌, ℕ, zero, suc, ◌+◌, ◌<◌, ◌⊎◌, ◌==◌, Bool, true, false, List, [], ◌∷◌, ◌++◌, length, map, get_or, Option, Some, None, refl, sym, ap, ◌∙◌, subst, inl, inr, arith, true≢false, eq-eqb}
use Rattle.std.specs.Prelude.{nat_lt}
use Rattle.std.specs.List.{filter}
use Rattle.std.proofs.lemmas.Bool.{cases_Bool, cases_order, eqb-true, ltb-true, lt-ltb, ne_eqb}
use Rattle.std.proofs.lemmas.List.{length-map, get_or-map, map-append}
use Rattle.rdf_terms.proofs.Common.{In, Document, statement, statements, term_at, In-map, from_In-map, In-get_or, place_within, decide_in}
use Rattle.rdf_terms.specs.declared.term.Term.TheVariants.{Blank}
use Rattle.rdf_terms.specs.declared.term.Quad.{Quad}
use Rattle.dataset_index.specs.Mentions.{places_of}
use Rattle.graph_model.proofs.Maps.{by_subject, by_object}
use Rattle.map_search.specs.Index.{quad_at, meets_in}
use Rattle.map_search.specs.Laws.{IsSearch}
use Rattle.map_search.specs.Marks.{mark_at}
use Rattle.map_search.specs.Numbers.{AreNumbers}
use Rattle.map_search.specs.Pattern.{IsAsked, IsAskedOf, IsAskedWhole, IsWhole, IsOtherEnd, EachIsAsked, TouchesOneOf, row_at}
use Rattle.map_search.specs.declared.rows.End.{End}
use Rattle.map_search.specs.declared.rows.End.TheVariants.{Fixed, Place}
use Rattle.map_search.specs.declared.rows.Condition.{Condition}
use Rattle.map_search.proofs.Bridging.{blank-is_node, number_is}
use Rattle.map_search.proofs.Indexing.{In-kept, kept-In, index_tells}
use Rattle.lean_search.specs.Asked.{end_for, subject_for, object_for, condition_for, row_for}
use Rattle.lean_search.specs.Image.{IsOneGraph, quads_left}
use Rattle.lean_search.specs.Places.{ArePlaces}
use Rattle.lean_search.specs.declared.places.TheConstants.{NONE}
use Rattle.rdf_terms.specs.declared.limits.TheConstants.{MOST_NUMBERS}
use Rattle.lean_search.proofs.Shrinking.{In-kept-quads}
use Rattle.lean_search.proofs.AtNodes.{IsLeftAt, place_left, left_place, mentioned_end, In-quad_at}

-- ---- one condition

module _ (terms : ℕ) (place_of own : List ℕ) (are : ArePlaces terms place_of own) (few : length own < MOST_NUMBERS) where
  has_none : (x : ℕ) → get_or place_of x 0 ≡ NONE → ¬ (In x own)
  has_none x e i =
      let p = place_within own x 0 i in
      let f : get_or place_of x 0 ≡ p.0 = subst (λ y. get_or place_of y 0 ≡ p.0) p.2 (are.at_place p.0 p.1) in
      let g : p.0 ≡ MOST_NUMBERS = sym f ∙ e in
      let l = p.1 in
      absurd (omega arith)

  has_place : (x : ℕ) → x < terms → (get_or place_of x 0 == NONE) ≡ false → x ≡ get_or own (get_or place_of x 0) 0
  has_place x l n = by (decide_in x own)
    where
      by : In x own ⊎ (¬ (In x own)) → x ≡ get_or own (get_or place_of x 0) 0
      by (inl i) = (let p = place_within own x 0 i in let f : get_or place_of x 0 ≡ p.0 = subst (λ y. get_or place_of y 0 ≡ p.0) p.2 (are.at_place p.0 p.1) in sym p.2
          ∙ ap (λ j. get_or own j 0) (sym f))
      by (inr o) = absurd (true≢false (sym (eq-eqb (get_or place_of x 0) NONE (are.elsewhere x l o)) ∙ n))

  other_end : (k x : ℕ) (e : End) → x < terms → end_for place_of k x ≡ Some e → IsOtherEnd own k e x
  other_end k x e l f = by (cases_Bool (get_or place_of x 0 == NONE)) (cases_Bool (nat_lt (get_or place_of x 0) k))
    where
      by : ((get_or place_of x 0 == NONE) ≡ true) ⊎ ((get_or place_of x 0 == NONE) ≡ false) → (nat_lt (get_or place_of x 0) k ≡ true) ⊎ (nat_lt (get_or place_of x 0) k ≡ false) → IsOtherEnd own k e x
      by (inl n) b =
          let g : end_for place_of k x ≡ Some (Fixed x) = rw n refl in
          let h : Fixed x ≡ e = cc in
          subst (λ w. IsOtherEnd own k w x) h (refl, has_none x (eqb-true (get_or place_of x 0) NONE n))
      by (inr n) (inl b) =
          let g : end_for place_of k x ≡ Some (Place (get_or place_of x 0)) = rw (n, b) refl in
          let h : Place (get_or place_of x 0) ≡ e = cc in
          subst (λ w. IsOtherEnd own k w x) h (ltb-true (get_or place_of x 0) k b, has_place x l n)
      by (inr n) (inr b) =
          let g : end_for place_of k x ≡ None = rw (n, b) refl in
          cc

  asked_subject : (k : ℕ) (q : Quad) → q.o < terms → q.s ≡ get_or own k 0 → (e : Option End) → end_for place_of k q.o ≡ e → IsAsked own k q (subject_for q.p e)
  asked_subject k q l s None f = (s, refl)
  asked_subject k q l s (Some e) f = (s, refl, other_end k q.o e l f)

  asked_object : (k : ℕ) (q : Quad) → q.s < terms → q.o ≡ get_or own k 0 → (e : Option End) → end_for place_of k q.s ≡ e → IsAsked own k q (object_for q.p e)
  asked_object k q l o None f = (o, refl)
  asked_object k q l o (Some e) f = (o, refl, other_end k q.s e l f)

  pub asked_of : (k : ℕ) (q : Quad) → q.s < terms → q.o < terms → (q.s ≡ get_or own k 0) ⊎ (q.o ≡ get_or own k 0) → IsAsked own k q (condition_for place_of k (get_or own k 0) q)
  asked_of k q ls lo touches = by (cases_Bool (q.s == get_or own k 0)) (cases_Bool (q.o == get_or own k 0))
    where
      by : ((q.s == get_or own k 0) ≡ true) ⊎ ((q.s == get_or own k 0) ≡ false) → ((q.o == get_or own k 0) ≡ true) ⊎ ((q.o == get_or own k 0) ≡ false)
          → IsAsked own k q (condition_for place_of k (get_or own k 0) q)
      by (inl s) (inl o) = rw (s, o) (eqb-true q.s (get_or own k 0) s, refl, eqb-true q.o (get_or own k 0) o)
      by (inl s) (inr o) = rw (s, o) (asked_subject k q lo (eqb-true q.s (get_or own k 0) s) (end_for place_of k q.o) refl)
      by (inr s) (inl o) = rw s (asked_object k q ls (eqb-true q.o (get_or own k 0) o) (end_for place_of k q.s) refl)
      by (inr s) (inr o) = absurd (elim touches [ inl e ↦ true≢false (sym (eq-eqb q.s (get_or own k 0) e) ∙ s) | inr e ↦ true≢false (sym (eq-eqb q.o (get_or own k 0) e) ∙ o) ])

  -- ---- whole conditions

  settled_end : (k x : ℕ) → (get_or place_of x 0 ≡ NONE) ⊎ (get_or place_of x 0 < k) → (e : End) × (end_for place_of k x ≡ Some e)
  settled_end k x (inl e) = (Fixed x, (let n : (get_or place_of x 0 == NONE) ≡ true = eq-eqb (get_or place_of x 0) NONE e in rw n refl))
  settled_end k x (inr l) = by (cases_Bool (get_or place_of x 0 == NONE))
    where
      by : ((get_or place_of x 0 == NONE) ≡ true) ⊎ ((get_or place_of x 0 == NONE) ≡ false) → (e : End) × (end_for place_of k x ≡ Some e)
      by (inl n) = (Fixed x, rw n refl)
      by (inr n) = (Place (get_or place_of x 0), (let b : nat_lt (get_or place_of x 0) k ≡ true = lt-ltb (get_or place_of x 0) k l in rw (n, b) refl))

  whole_both : (k : ℕ) (q : Quad) (t : ℕ) → q.s ≡ t → q.o ≡ t → IsWhole (condition_for place_of k t q)
  whole_both k q t s o = (let a : (q.s == t) ≡ true = eq-eqb q.s t s in let b : (q.o == t) ≡ true = eq-eqb q.o t o in rw (a, b) tt)

  whole_subject : (k : ℕ) (q : Quad) (t : ℕ) → q.s ≡ t → (¬ (q.o ≡ t)) → (get_or place_of q.o 0 ≡ NONE) ⊎ (get_or place_of q.o 0 < k) → IsWhole (condition_for place_of k t q)
  whole_subject k q t s o e =
      (let a : (q.s == t) ≡ true = eq-eqb q.s t s in let b : (q.o == t) ≡ false = ne_eqb q.o t o in let r = settled_end k q.o e in rw (a, b) (subst (λ w. IsWhole (subject_for q.p w)) (sym r.1) tt))

  whole_object : (k : ℕ) (q : Quad) (t : ℕ) → (¬ (q.s ≡ t)) → (get_or place_of q.s 0 ≡ NONE) ⊎ (get_or place_of q.s 0 < k) → IsWhole (condition_for place_of k t q)
  whole_object k q t s e = (let a : (q.s == t) ≡ false = ne_eqb q.s t s in let r = settled_end k q.s e in rw a (subst (λ w. IsWhole (object_for q.p w)) (sym r.1) tt))

-- ---- the rows

-- what holds at each place of a list, and of what is pushed, holds at each place behind
pub push_each : {A : Type 0} (P : ℕ → A → Type 0) (d : A) (xs : List A) (n : ℕ) (x : A) → length xs ≡ n → ((k : ℕ) → k < n → P k (get_or xs k d)) → P n x → (k : ℕ) → k < n + 1
    → P k (get_or (xs ++ x ∷ []) k d)
push_each P d [] n x e h p zero l = subst (λ m. P m x) (sym e) p
push_each P d [] n x e h p (suc k) l = absurd (omega arith)
push_each P d (y ∷ ys) n x e h p zero l = h 0 (omega arith)
push_each P d (y ∷ ys) n x e h p (suc k) l = push_each (λ m. P (suc m)) d ys (length ys) x refl (λ j m. h (suc j) (omega arith)) (subst (λ m. P m x) (sym e) p) k (omega arith)

pub push_rows : {A : Type 0} (f : A → List Condition) (old : List A) (x : A) (n : ℕ) (g : ℕ → List Condition) → length old ≡ n → ((k : ℕ) → k < n → row_at (map f old) k ≡ g k) → f x ≡ g n → (k : ℕ)
    → k < n + 1 → row_at (map f (old ++ x ∷ [])) k ≡ g k
push_rows f old x n g e h r k l = ap (λ rows. row_at rows k) (map-append f old (x ∷ [])) ∙ push_each (λ j row. row ≡ g j) [] (map f old) n (f x) (length-map old f ∙ e) h r k l

pub ends_within : (d : Document) (live : List Bool) (node : ℕ) → IsOneGraph d → (k : ℕ) → In k (filter (mark_at live) (places_of (statements d) node))
    → ((quad_at d.quads k).s < length d.terms) × ((quad_at d.quads k).o < length d.terms)
ends_within d live node one k i =
    let r = one.in_range (quad_at d.quads k) (In-quad_at d.quads k (place_left d live node k i).within) in
    (r.s, r.o)

module _ (d : Document) (live : List Bool) (one : IsOneGraph d) (place_of walk own : List ℕ)
    (are : ArePlaces (length d.terms) place_of own) (few : length own < MOST_NUMBERS)
    (numbers : AreNumbers d.terms (quads_left d live) own walk)
    (rows : List (List Condition)) (count : length rows ≡ length walk)
    (each : (k : ℕ) → k < length walk → row_at rows k ≡ row_for d live place_of k (get_or walk k 0) (get_or own k 0)) where
  abbrev H : List Quad
  H = quads_left d live

  same_length : length own ≡ length walk
  same_length = sym (length-map own (term_at d.terms)) ∙ (ap length numbers.nodes_are ∙ length-map walk Blank)

  term_of : (k : ℕ) → k < length walk → term_at d.terms (get_or own k 0) ≡ Blank (get_or walk k 0)
  term_of k l =
      let a : get_or (map (term_at d.terms) own) k (Blank 0) ≡ term_at d.terms (get_or own k 0) = get_or-map (term_at d.terms) own k 0 (Blank 0) (let e = same_length in omega arith) in
      let b : get_or (map Blank walk) k (Blank 0) ≡ Blank (get_or walk k 0) = get_or-map Blank walk k 0 (Blank 0) l in
      sym a ∙ (ap (λ xs. get_or xs k (Blank 0)) numbers.nodes_are ∙ b)

  own_within : (k : ℕ) → k < length walk → get_or own k 0 < length d.terms
  own_within k l =
      let t = numbers.used (get_or own k 0) (In-get_or own k 0 (let e = same_length in omega arith)) in
      let r = numbers.in_range t.triple t.there in
      elim t.end [ inl e ↦ subst (λ w. w < length d.terms) (sym e) r.s | inr e ↦ subst (λ w. w < length d.terms) (sym e) r.o ]

  -- a triple that is left at a node has the node's term as an end
  has_end : (k j : ℕ) → k < length walk → IsLeftAt d live (get_or walk k 0) j → ((quad_at d.quads j).s ≡ get_or own k 0) ⊎ ((quad_at d.quads j).o ≡ get_or own k 0)
  has_end k j l at =
      let r = one.in_range (quad_at d.quads j) (In-quad_at d.quads j at.within) in
      elim (mentioned_end d one j (get_or walk k 0) at.within at.mentioned) [
        | inl e ↦ inl
            (number_is d.terms one.terms_once (quad_at d.quads j).s (get_or own k 0) r.s (own_within k l) (e ∙ sym (term_of k l)))
        | inr e ↦ inr
            (number_is d.terms one.terms_once (quad_at d.quads j).o (get_or own k 0) r.o (own_within k l) (e ∙ sym (term_of k l)))
      ]

  end_left : (k j : ℕ) → k < length walk → j < length d.quads → mark_at live j ≡ true → ((quad_at d.quads j).s ≡ get_or own k 0) ⊎ ((quad_at d.quads j).o ≡ get_or own k 0)
      → IsLeftAt d live (get_or walk k 0) j
  end_left k j l w m e = record {
    within = w;
    is_left = m;
    mentioned = elim e [
      | inl s ↦ by_subject (statement d.terms (quad_at d.quads j)) (get_or walk k 0)
          (blank-is_node (get_or walk k 0) (term_at d.terms (quad_at d.quads j).s) (ap (term_at d.terms) s ∙ term_of k l))
      | inr o ↦ by_object (statement d.terms (quad_at d.quads j)) (get_or walk k 0)
          (blank-is_node (get_or walk k 0) (term_at d.terms (quad_at d.quads j).o) (ap (term_at d.terms) o ∙ term_of k l))
    ];
  }

  abbrev asks : ℕ → ℕ → Condition
  asks k j = condition_for place_of k (get_or own k 0) (quad_at d.quads j)

  in_row : (k j : ℕ) → k < length walk → IsLeftAt d live (get_or walk k 0) j → In (asks k j) (row_at rows k)
  in_row k j l at = subst (λ r. In (asks k j) r) (sym (each k l)) (In-map (asks k) (filter (mark_at live) (places_of (statements d) (get_or walk k 0))) j (left_place d live (get_or walk k 0) j at))

  asked_at : (k j : ℕ) → k < length walk → IsLeftAt d live (get_or walk k 0) j → IsAsked own k (quad_at d.quads j) (asks k j)
  asked_at k j l at =
      let r = one.in_range (quad_at d.quads j) (In-quad_at d.quads j at.within) in
      asked_of (length d.terms) place_of own are few k (quad_at d.quads j) r.s r.o (has_end k j l at)

  only : (k : ℕ) → k < length rows → (c : Condition) → In c (row_at rows k) → IsAskedOf H own k c
  only k l c i =
      let m : k < length walk = omega arith in
      let p = from_In-map (asks k) (filter (mark_at live) (places_of (statements d) (get_or walk k 0))) c (subst (λ r. In c r) (each k m) i) in
      let at = place_left d live (get_or walk k 0) p.0 p.1 in
      record {
        triple = quad_at d.quads p.0;
        there = kept-In d.quads live p.0 at.within at.is_left;
        touches = record { node = get_or own k 0; there = In-get_or own k 0 (let e = same_length in omega arith); end = elim (has_end k p.0 m at) [ inl e ↦ inl (sym e) | inr e ↦ inr (sym e) ] };
        asked = subst (λ w. IsAsked own k (quad_at d.quads p.0) w) (sym p.2) (asked_at k p.0 m at);
      }

  -- the triple is asked whole at the place, if it has a whole condition there
  whole_at : (q : Quad) (k j : ℕ) → k < length own → j < length d.quads → mark_at live j ≡ true → quad_at d.quads j ≡ q → (q.s ≡ get_or own k 0) ⊎ (q.o ≡ get_or own k 0)
      → IsWhole (condition_for place_of k (get_or own k 0) q) → IsAskedWhole own rows q
  whole_at q k j l w m e touches whole =
      let n : k < length walk = (let s = same_length in omega arith) in
      let at : IsLeftAt d live (get_or walk k 0) j = end_left k j n w m (subst (λ x. (x.s ≡ get_or own k 0) ⊎ (x.o ≡ get_or own k 0)) (sym e) touches) in
      record {
        place = k;
        within = (let s = same_length in omega arith);
        condition = asks k j;
        there = in_row k j n at;
        whole = subst (λ x. IsWhole (condition_for place_of k (get_or own k 0) x)) (sym e) whole;
        asked = subst (λ x. IsAsked own k x (asks k j)) e (asked_at k j n at);
      }

  all : (q : Quad) → In q H → TouchesOneOf own q → IsAskedWhole own rows q
  all q i t = by (decide_in q.s own) (decide_in q.o own)
    where
      j : (k : ℕ) × (k < length d.quads) × (quad_at d.quads k ≡ q) × (mark_at live k ≡ true)
      j = In-kept q d.quads live i

      at : (x : ℕ) → In x own → (k : ℕ) × (k < length own) × (get_or own k 0 ≡ x) × (get_or place_of x 0 ≡ k)
      at x h = (let p = place_within own x 0 h in (p.0, p.1, p.2, subst (λ y. get_or place_of y 0 ≡ p.0) p.2 (are.at_place p.0 p.1)))

      both : (a : (k : ℕ) × (k < length own) × (get_or own k 0 ≡ q.s) × (get_or place_of q.s 0 ≡ k)) (b : (k : ℕ) × (k < length own) × (get_or own k 0 ≡ q.o) × (get_or place_of q.o 0 ≡ k))
          → (a.0 ≡ b.0) ⊎ ((a.0 < b.0) ⊎ (b.0 < a.0)) → IsAskedWhole own rows q
      both a b (inr (inl l)) =
          whole_at q b.0 j.0 b.1 j.1 j.3 j.2 (inr (sym b.2))
          (whole_object (length d.terms) place_of own are few b.0 q (get_or own b.0 0) (λ e. (let f : a.0 ≡ b.0 = sym a.3 ∙ (ap (λ x. get_or place_of x 0) (e ∙ b.2) ∙ b.3) in omega arith))
          (inr (let e = a.3 in omega arith)))
      both a b (inl e) =
          whole_at q a.0 j.0 a.1 j.1 j.3 j.2 (inl (sym a.2)) (whole_both (length d.terms) place_of own are few a.0 q (get_or own a.0 0) (sym a.2) (sym b.2 ∙ ap (λ k. get_or own k 0) (sym e)))
      both a b (inr (inr l)) =
          whole_at q a.0 j.0 a.1 j.1 j.3 j.2 (inl (sym a.2))
          (whole_subject (length d.terms) place_of own are few a.0 q (get_or own a.0 0) (sym a.2) (λ e. (let f : b.0 ≡ a.0 = sym b.3 ∙ (ap (λ x. get_or place_of x 0) (e ∙ a.2) ∙ a.3) in omega arith))
          (inr (let e = b.3 in omega arith)))

      range : (q.s < length d.terms) × (q.o < length d.terms)
      range = (let r = numbers.in_range q i in (r.s, r.o))

      by : In q.s own ⊎ (¬ (In q.s own)) → In q.o own ⊎ (¬ (In q.o own)) → IsAskedWhole own rows q
      by (inl s) (inl o) = both (at q.s s) (at q.o o) (cases_order (at q.s s).0 (at q.o o).0)
      by (inl s) (inr o) =
          let a = at q.s s in
          whole_at q a.0 j.0 a.1 j.1 j.3 j.2 (inl (sym a.2))
          (whole_subject (length d.terms) place_of own are few a.0 q (get_or own a.0 0) (sym a.2) (λ e. o (subst (λ x. In x own) (sym (e ∙ a.2)) s)) (inl (are.elsewhere q.o range.1 o)))
      by (inr s) (inl o) =
          let b = at q.o o in
          whole_at q b.0 j.0 b.1 j.1 j.3 j.2 (inr (sym b.2))
          (whole_object (length d.terms) place_of own are few b.0 q (get_or own b.0 0) (λ e. s (subst (λ x. In x own) (sym (e ∙ b.2)) o)) (inl (are.elsewhere q.s range.0 s)))
      by (inr s) (inr o) = absurd (elim t.end [ inl e ↦ s (subst (λ x. In x own) e t.there) | inr e ↦ o (subst (λ x. In x own) e t.there) ])

  each_asked : EachIsAsked rows
  each_asked k l =
      let m : k < length walk = omega arith in
      let t = numbers.used (get_or own k 0) (In-get_or own k 0 (let e = same_length in omega arith)) in
      let j = In-kept t.triple d.quads live t.there in
      let at : IsLeftAt d live (get_or walk k 0) j.0 = end_left k j.0 m j.1 j.3 (elim t.end [ inl e ↦ inl (ap (λ (q : Quad). q.s) j.2 ∙ sym e) | inr e ↦ inr (ap (λ (q : Quad). q.o) j.2 ∙ sym e) ]) in
      (asks k j.0, in_row k j.0 m at)

  pub is_search : IsSearch H H own rows (length d.terms) (meets_in H)
  is_search = record {
    rows_are = record {
      unnamed = λ q i. one.unnamed q (In-kept-quads q d.quads live i);
      distinct = numbers.once;
      count = count ∙ sym same_length;
      only = only;
      all = all;
    };
    asked = each_asked;
    tells = index_tells H (length d.terms) (λ q i. (let r = numbers.in_range q i in (r.s, r.o))) (λ q i. one.unnamed q (In-kept-quads q d.quads live i));
  }
