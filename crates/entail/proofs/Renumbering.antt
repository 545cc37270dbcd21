-- Rows by other numbers are rows of the graph by other numbers.
use Rattle.std.proofs.Common.{◌≡◌, ℕ, ◌<◌, ◌⊎◌, List, [], length, map, get_or, refl, sym, ap, ◌∙◌, subst, inl, inr, arith}
use Rattle.std.proofs.lemmas.List.{length-map, get_or-map}
use Rattle.rdf_terms.proofs.Common.{In, In-map, from_In-map}
use Rattle.rdf_terms.specs.declared.term.Quad.{Quad}
use Rattle.map_search.specs.Pattern.{AreRows, EachIsAsked, IsAsked, IsAskedOf, IsAskedWhole, IsOtherEnd, IsWhole, TouchesOneOf, row_at}
use Rattle.map_search.specs.declared.rows.End.{End}
use Rattle.map_search.specs.declared.rows.End.TheVariants.{Fixed, Place}
use Rattle.map_search.specs.declared.rows.Condition.{Condition}
use Rattle.map_search.specs.declared.rows.Condition.TheVariants.{Subject, Object, Both, SomeSubject, SomeObject}
use Rattle.entail.specs.Laws.{KeepsApart}
use Rattle.entail.specs.Numbers.{condition_by, end_by, quad_by}

module _ (f : ℕ → ℕ) (G : List Quad) (nodes : List ℕ) (apart : KeepsApart f G nodes) where
  at : (k : ℕ) → k < length nodes → get_or (map f nodes) k 0 ≡ f (get_or nodes k 0)
  at k l = get_or-map f nodes k 0 0 l

  other : (k : ℕ) → k < length nodes → (q : Quad) → In q G → (x : ℕ) → (x ≡ q.s) ⊎ (x ≡ q.o) → (e : End) → IsOtherEnd nodes k e x → IsOtherEnd (map f nodes) k (end_by f e) (f x)
  other k l q there x end (Fixed n) o = (ap f o.0, λ i. o.1 (apart.apart q there x end i))
  other k l q there x end (Place j) o = (o.0, ap f o.1 ∙ sym (at j (let b = o.0 in omega arith)))

  asked : (k : ℕ) → k < length nodes → (q : Quad) → In q G → (c : Condition) → IsAsked nodes k q c → IsAsked (map f nodes) k (quad_by f q) (condition_by f c)
  asked k l q there (Subject p o) a = (ap f a.0 ∙ sym (at k l), ap f a.1, other k l q there q.o (inr refl) o a.2)
  asked k l q there (Object s p) a = (ap f a.0 ∙ sym (at k l), ap f a.1, other k l q there q.s (inl refl) s a.2)
  asked k l q there (Both p) a = (ap f a.0 ∙ sym (at k l), ap f a.1, ap f a.2 ∙ sym (at k l))
  asked k l q there (SomeSubject p) a = (ap f a.0 ∙ sym (at k l), ap f a.1)
  asked k l q there (SomeObject p) a = (ap f a.0 ∙ sym (at k l), ap f a.1)

  whole : (c : Condition) → IsWhole c → IsWhole (condition_by f c)
  whole (Subject p o) w = tt
  whole (Object s p) w = tt
  whole (Both p) w = tt
  whole (SomeSubject p) w = absurd w
  whole (SomeObject p) w = absurd w

  pub touches_by : (q : Quad) → TouchesOneOf nodes q → TouchesOneOf (map f nodes) (quad_by f q)
  touches_by q t = record { node = f t.node; there = In-map f nodes t.node t.there; end = elim t.end [ inl e ↦ inl (ap f e) | inr e ↦ inr (ap f e) ] }

  pub by_touches : (q : Quad) → In q G → TouchesOneOf (map f nodes) (quad_by f q) → TouchesOneOf nodes q
  by_touches q there t = elim t.end [
    | inl e ↦ record { node = q.s; there = apart.apart q there q.s (inl refl) (subst (λ x. In x (map f nodes)) e t.there); end = inl refl }
    | inr e ↦ record { node = q.o; there = apart.apart q there q.o (inr refl) (subst (λ x. In x (map f nodes)) e t.there); end = inr refl }
  ]

  module _ (rows : List (List Condition)) (are : AreRows G nodes rows) where
    row_by : (k : ℕ) → k < length rows → row_at (map (map (condition_by f)) rows) k ≡ map (condition_by f) (row_at rows k)
    row_by k l = get_or-map (map (condition_by f)) rows k [] [] l

    count : length (map (map (condition_by f)) rows) ≡ length rows
    count = length-map rows (map (condition_by f))

    only : (k : ℕ) → k < length (map (map (condition_by f)) rows) → (c : Condition) → In c (row_at (map (map (condition_by f)) rows) k) → IsAskedOf (map (quad_by f) G) (map f nodes) k c
    only k l c i =
        let m : k < length rows = (let e = count in omega arith) in
        let n : k < length nodes = (let e = are.count in omega arith) in
        let p = from_In-map (condition_by f) (row_at rows k) c (subst (λ r. In c r) (row_by k m) i) in
        let a : IsAskedOf G nodes k p.0 = are.only k m p.0 p.1 in
        record {
          triple = quad_by f a.triple;
          there = In-map (quad_by f) G a.triple a.there;
          touches = touches_by a.triple a.touches;
          asked = subst (IsAsked (map f nodes) k (quad_by f a.triple)) (sym p.2) (asked k n a.triple a.there p.0 a.asked);
        }

    all : (q : Quad) → In q (map (quad_by f) G) → TouchesOneOf (map f nodes) q → IsAskedWhole (map f nodes) (map (map (condition_by f)) rows) q
    all q i t =
        let p = from_In-map (quad_by f) G q i in
        let w : IsAskedWhole nodes rows p.0 = are.all p.0 p.1 (by_touches p.0 p.1 (subst (TouchesOneOf (map f nodes)) p.2 t)) in
        let l : w.place < length nodes = (let a = w.within in let e = are.count in omega arith) in
        record {
          place = w.place;
          within = (let a = w.within in let e = count in omega arith);
          condition = condition_by f w.condition;
          there = subst (λ r. In (condition_by f w.condition) r) (sym (row_by w.place w.within)) (In-map (condition_by f) (row_at rows w.place) w.condition w.there);
          whole = whole w.condition w.whole;
          asked = subst (λ x. IsAsked (map f nodes) w.place x (condition_by f w.condition)) (sym p.2) (asked w.place l p.0 p.1 w.condition w.asked);
        }

    pub rows_are : AreRows (map (quad_by f) G) (map f nodes) (map (map (condition_by f)) rows)
    rows_are = record {
      unnamed = λ q i. (let p = from_In-map (quad_by f) G q i in ap (λ (x : Quad). x.g) p.2 ∙ are.unnamed p.0 p.1);
      distinct = apart.once;
      count = count ∙ (are.count ∙ sym (length-map nodes f));
      only = only;
      all = all;
    }

    pub each_is_asked : EachIsAsked rows → EachIsAsked (map (map (condition_by f)) rows)
    each_is_asked each k l =
        let m : k < length rows = (let e = count in omega arith) in
        let c = each k m in
        (condition_by f c.0, subst (λ r. In (condition_by f c.0) r) (sym (row_by k m)) (In-map (condition_by f) (row_at rows k) c.0 c.1))

pub rows_renumbered : (f : ℕ → ℕ) (G : List Quad) (nodes : List ℕ) (rows : List (List Condition)) → KeepsApart f G nodes → AreRows G nodes rows → EachIsAsked rows
    → AreRows (map (quad_by f) G) (map f nodes) (map (map (condition_by f)) rows) × EachIsAsked (map (map (condition_by f)) rows)
rows_renumbered f G nodes rows apart are each = (rows_are f G nodes apart rows are, each_is_asked f G nodes apart rows are each)
