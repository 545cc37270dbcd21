-- What the tables of an index hold of its triples.
use Rattle.std.proofs.Common.{◌≡◌, ℕ, zero, suc, ◌<◌, ◌≤◌, ◌⊎◌, ◌↔◌, ◌==◌, Bool, true, false, ◌||◌, ◌&&◌, if◌then◌else◌, List, [], ◌∷◌, length, Option, Some, None, IfSome, refl, sym, ap, ◌∙◌, subst, inl, inr, arith, true≢false, eq-eqb}
use Rattle.std.specs.Option.{IfNone}
use Rattle.std.specs.List.{list_any, slice_set}
use Rattle.std.proofs.lemmas.Bool.{eqb-true, cases_eq, and_from, or_right}
use Rattle.std.proofs.lemmas.List.{get_or-set_same, get_or-set_other}
use Rattle.rdf_terms.proofs.Common.{In, AreDistinct, Permutes, In-get_or, place_within, In-Permutes, Permutes-sym}
use Rattle.std.proofs.lemmas.Bool.{and_parts}
use Rattle.rdf_terms.specs.declared.term.Quad.{Quad}
use Rattle.map_search.specs.Maps.{IsNext, NoneFits}
use Rattle.map_search.specs.Pattern.{end_at, TellsMeets, Meets}
use Rattle.map_search.specs.declared.rows.Condition.{Condition}
use Rattle.map_search.specs.declared.rows.Condition.TheVariants.{Subject, Object, Both, SomeSubject, SomeObject}
use Rattle.map_search.specs.declared.table.Entry.{Entry}
use Rattle.map_search.specs.declared.index.Asked.{Asked}
use Rattle.map_search.specs.declared.index.Asked.TheVariants.{AsSubject, AsObject, AsBoth, AsSomeSubject, AsSomeObject}
use Rattle.map_search.specs.Marks.{mark_at}
use Rattle.map_search.specs.Table.{TableView, entry_at, no_entry, HasEntry, IsLeastValue}
use Rattle.map_search.specs.Index.{quad_at, kept, first_of, second_of, value_of, entry_for, IsTableOf, asked_by, first_asked, second_asked, gives, meets_in}

-- ---- lists

distinct_by_places : (xs : List Entry) → ((i j : ℕ) → i < length xs → j < length xs → entry_at xs i ≡ entry_at xs j → i ≡ j) → AreDistinct xs
distinct_by_places [] h = tt
distinct_by_places (x ∷ xs) h = (
  λ i. (let p = place_within xs x no_entry i in let e = h 0 (suc p.0) (omega arith) (let l = p.1 in omega arith) (sym p.2) in omega arith),
  distinct_by_places xs
      (λ i j l m e. (let s = h (suc i) (suc j) (omega arith) (omega arith) e in omega arith)),
)

pub distinct_entries : (asked : Asked) (quads : List Quad) (es : List Entry) → length es ≡ length quads → ((k : ℕ) → k < length quads → entry_at es k ≡ entry_for asked (quad_at quads k) k)
    → AreDistinct es
distinct_entries asked quads es count each = distinct_by_places es (λ i j l m e. ap (λ (x : Entry). x.quad) (sym (each i (omega arith)) ∙ e ∙ each j (omega arith)))

pub In-kept : (q : Quad) (quads : List Quad) (live : List Bool) → In q (kept quads live) → (k : ℕ) × (k < length quads) × (quad_at quads k ≡ q) × (mark_at live k ≡ true)
In-kept q [] live i = absurd i
In-kept q (x ∷ xs) [] i = absurd i
In-kept q (x ∷ xs) (true ∷ bs) (inl e) = (0, omega arith, sym e, refl)
In-kept q (x ∷ xs) (true ∷ bs) (inr i) = (let p = In-kept q xs bs i in (suc p.0, (let l = p.1 in omega arith), p.2, p.3))
In-kept q (x ∷ xs) (false ∷ bs) i = (let p = In-kept q xs bs i in (suc p.0, (let l = p.1 in omega arith), p.2, p.3))

pub kept-In : (quads : List Quad) (live : List Bool) (k : ℕ) → k < length quads → mark_at live k ≡ true → In (quad_at quads k) (kept quads live)
kept-In [] live k l e = absurd (omega arith)
kept-In (x ∷ xs) [] k l e = absurd (true≢false (sym e))
kept-In (x ∷ xs) (true ∷ bs) zero l e = inl refl
kept-In (x ∷ xs) (true ∷ bs) (suc k) l e = inr (kept-In xs bs k (omega arith) e)
kept-In (x ∷ xs) (false ∷ bs) zero l e = absurd (true≢false (sym e))
kept-In (x ∷ xs) (false ∷ bs) (suc k) l e = kept-In xs bs k (omega arith) e

module _ {A : Type 0} (p : A → Bool) where
  pub some_passes : (xs : List A) → list_any p xs ≡ true → (q : A) × In q xs × (p q ≡ true)
  some_passes [] e = absurd (true≢false (sym e))
  some_passes (x ∷ xs) e = by (p x) refl e (some_passes xs)
    where
      by : (b : Bool) → p x ≡ b → (b || list_any p xs) ≡ true → (list_any p xs ≡ true → (q : A) × In q xs × (p q ≡ true)) → (q : A) × In q (x ∷ xs) × (p q ≡ true)
      by true f e ih = (x, inl refl, f)
      by false f e ih = (let r = ih e in (r.0, inr r.1, r.2))

  pub passes_some : (xs : List A) (q : A) → In q xs → p q ≡ true → list_any p xs ≡ true
  passes_some [] q i e = absurd i
  passes_some (x ∷ xs) q (inl f) e = (let g : p x ≡ true = ap p (sym f) ∙ e in rw g refl)
  passes_some (x ∷ xs) q (inr i) e = or_right (p x) (list_any p xs) (passes_some xs q i e)

-- ---- one table

module _ (asked : Asked) (quads : List Quad) (live : List Bool) where
  pub table_from_build : (es : List Entry) (t : TableView) → length es ≡ length quads → ((k : ℕ) → k < length quads → entry_at es k ≡ entry_for asked (quad_at quads k) k) → Permutes es t.entries
      → ((k : ℕ) → k < length t.entries → mark_at t.marks k ≡ true) → ((k : ℕ) → k < length quads → mark_at live k ≡ true) → IsTableOf asked quads live t
  table_from_build es t count each permutes marks all = record {
    only = one;
    all = λ k l. In-Permutes (entry_for asked (quad_at quads k) k) permutes (subst (λ x. In x es) (each k l) (In-get_or es k no_entry (omega arith)));
    marked = λ e l. marks e l ∙ sym (all (entry_at t.entries e).quad (one e l).0);
  }
    where
      one : (e : ℕ) → e < length t.entries
          → ((entry_at t.entries e).quad < length quads) × (entry_at t.entries e ≡ entry_for asked (quad_at quads (entry_at t.entries e).quad) (entry_at t.entries e).quad)
      one e l =
          let p = place_within es (entry_at t.entries e) no_entry (In-Permutes (entry_at t.entries e) (Permutes-sym permutes) (In-get_or t.entries e no_entry l)) in
          let inside : p.0 < length quads = (let a = p.1 in omega arith) in
          let is : entry_at t.entries e ≡ entry_for asked (quad_at quads p.0) p.0 = sym p.2 ∙ each p.0 inside in
          let k : (entry_at t.entries e).quad ≡ p.0 = ap (λ (x : Entry). x.quad) is in
          (subst (λ w. w < length quads) (sym k) inside, subst (λ w. entry_at t.entries e ≡ entry_for asked (quad_at quads w) w) (sym k) is)

  pub table_set : (t new : TableView) (place : ℕ) (there : Bool) (entry : Entry) → IsTableOf asked quads live t → place < length live → entry ≡ entry_for asked (quad_at quads place) place
      → new.entries ≡ t.entries → ((k : ℕ) → k < length t.entries → entry_at t.entries k ≡ entry → mark_at new.marks k ≡ there)
      → ((k : ℕ) → k < length t.entries → (entry_at t.entries k ≡ entry → ⊥) → mark_at new.marks k ≡ mark_at t.marks k) → IsTableOf asked quads (slice_set live place there) new
  table_set t new place there entry is inside entry_is same here others = record {
    only = λ e l. subst (λ (xs : List Entry). ((entry_at xs e).quad < length quads) × (entry_at xs e ≡ entry_for asked (quad_at quads (entry_at xs e).quad) (entry_at xs e).quad)) (sym same)
        (is.only e (subst (λ (xs : List Entry). e < length xs) same l));
    all = λ k l. subst (λ (xs : List Entry). In (entry_for asked (quad_at quads k) k) xs) (sym same) (is.all k l);
    marked = λ e l. subst (λ (xs : List Entry). mark_at new.marks e ≡ mark_at (slice_set live place there) (entry_at xs e).quad) (sym same)
        (by e (subst (λ (xs : List Entry). e < length xs) same l) (cases_eq (entry_at t.entries e).quad place));
  }
    where
      by : (e : ℕ) → e < length t.entries → ((entry_at t.entries e).quad ≡ place) ⊎ ((entry_at t.entries e).quad ≡ place → ⊥)
          → mark_at new.marks e ≡ mark_at (slice_set live place there) (entry_at t.entries e).quad
      by e l (inl f) =
          here e l ((is.only e l).1 ∙ ap (λ w. entry_for asked (quad_at quads w) w) f ∙ sym entry_is)
          ∙ sym (ap (mark_at (slice_set live place there)) f ∙ get_or-set_same live place there false inside)
      by e l (inr n) = others e l (λ f. n (ap (λ (x : Entry). x.quad) (f ∙ entry_is))) ∙ is.marked e l ∙ sym (get_or-set_other live place (entry_at t.entries e).quad there false n)

  module _ (t : TableView) (is : IsTableOf asked quads live t) (first second : ℕ) where
    pub has_gives : (v : ℕ) → HasEntry t first second v → list_any (gives asked first second v) (kept quads live) ≡ true
    has_gives v h =
        let o = is.only h.place h.within in
        let k : ℕ = (entry_at t.entries h.place).quad in
        let a : first_of asked (quad_at quads (entry_at t.entries h.place).quad) ≡ first = sym (ap (λ (x : Entry). x.first) o.1) ∙ h.first_is in
        let b : second_of asked (quad_at quads (entry_at t.entries h.place).quad) ≡ second = sym (ap (λ (x : Entry). x.second) o.1) ∙ h.second_is in
        let c : value_of asked (quad_at quads (entry_at t.entries h.place).quad) ≡ v = sym (ap (λ (x : Entry). x.value) o.1) ∙ h.value_is in
        passes_some (gives asked first second v) (kept quads live) (quad_at quads (entry_at t.entries h.place).quad)
        (kept-In quads live (entry_at t.entries h.place).quad o.0 (sym (is.marked h.place h.within) ∙ h.marked))
        (and_from _ _ (eq-eqb _ first a) (and_from _ _ (eq-eqb _ second b) (eq-eqb _ v c)))

    pub gives_has : (v : ℕ) → list_any (gives asked first second v) (kept quads live) ≡ true → HasEntry t first second v
    gives_has v e = by (some_passes (gives asked first second v) (kept quads live) e)
      where
        by : ((q : Quad) × In q (kept quads live) × (gives asked first second v q ≡ true)) → HasEntry t first second v
        by r = at_entry (In-kept r.0 quads live r.1)
          where
            p : (first_of asked r.0 == first) ≡ true
            p = (and_parts (first_of asked r.0 == first) ((second_of asked r.0 == second) && (value_of asked r.0 == v)) r.2).0

            s : ((second_of asked r.0 == second) ≡ true) × ((value_of asked r.0 == v) ≡ true)
            s = and_parts (second_of asked r.0 == second) (value_of asked r.0 == v) (and_parts (first_of asked r.0 == first) ((second_of asked r.0 == second) && (value_of asked r.0 == v)) r.2).1

            at_entry : ((k : ℕ) × (k < length quads) × (quad_at quads k ≡ r.0) × (mark_at live k ≡ true)) → HasEntry t first second v
            at_entry k =
                let j = place_within t.entries (entry_for asked (quad_at quads k.0) k.0) no_entry (is.all k.0 k.1) in
                record {
                  place = j.0;
                  within = j.1;
                  marked = is.marked j.0 j.1 ∙ ap (λ (x : Entry). mark_at live x.quad) j.2 ∙ k.3;
                  first_is = ap (λ (x : Entry). x.first) j.2 ∙ ap (first_of asked) k.2 ∙ eqb-true (first_of asked r.0) first p;
                  second_is = ap (λ (x : Entry). x.second) j.2 ∙ ap (second_of asked) k.2 ∙ eqb-true (second_of asked r.0) second s.0;
                  value_is = ap (λ (x : Entry). x.value) j.2 ∙ ap (value_of asked) k.2 ∙ eqb-true (value_of asked r.0) v s.1;
                }

value_within : (asked : Asked) (q : Quad) (terms : ℕ) → (q.s < terms) × (q.o < terms) → value_of asked q < terms
value_within AsObject q terms r = r.1
value_within AsSomeObject q terms r = r.1
value_within asked q terms r = r.0

-- ---- what is found for a condition

module _ (quads : List Quad) (live : List Bool) (terms : ℕ) (range : (k : ℕ) → k < length quads → ((quad_at quads k).s < terms) × ((quad_at quads k).o < terms)) (images : List ℕ) (c : Condition)
    (t : TableView) (is : IsTableOf (asked_by c) quads live t) (first second : ℕ) (f : first ≡ first_asked images c) (s : second ≡ second_asked images c) (from : ℕ) where
  is_meets : (v : ℕ) → list_any (gives (asked_by c) first second v) (kept quads live) ≡ meets_in (kept quads live) images c v
  is_meets v = ap (λ w. list_any (gives (asked_by c) w second v) (kept quads live)) f ∙ ap (λ w. list_any (gives (asked_by c) (first_asked images c) w v) (kept quads live)) s

  pub next_for : (v : ℕ) → IsLeastValue t first second from v → IsNext terms (meets_in (kept quads live) images c) from v
  next_for v h = record {
    behind = h.behind;
    within = (let o = is.only h.there.place h.there.within in subst (λ w. w < terms) (sym (ap (λ (x : Entry). x.value) o.1) ∙ h.there.value_is)
        (value_within (asked_by c) (quad_at quads (entry_at t.entries h.there.place).quad) terms (range (entry_at t.entries h.there.place).quad o.0)));
    fit = sym (is_meets v) ∙ has_gives (asked_by c) quads live t is first second v h.there;
    least = λ w b l e. h.least w b l (gives_has (asked_by c) quads live t is first second w (is_meets w ∙ e));
  }

  pub some_for : (r : Option ℕ) → IfSome r (IsLeastValue t first second from) → IfSome r (IsNext terms (meets_in (kept quads live) images c) from)
  some_for None h = h
  some_for (Some v) h = next_for v h

  pub none_for : (r : Option ℕ) → IfNone r ((v : ℕ) → from ≤ v → ¬ (HasEntry t first second v)) → IfNone r (NoneFits terms (meets_in (kept quads live) images c) from)
  none_for None h = λ v b l e. h v b (gives_has (asked_by c) quads live t is first second v (is_meets v ∙ e))
  none_for (Some v) h = h

-- ---- the law

module _ (H : List Quad) (images : List ℕ) where
  found_by : (asked : Asked) (first second t : ℕ) → list_any (gives asked first second t) H ≡ true
      → (q : Quad) × In q H × (first_of asked q ≡ first) × (second_of asked q ≡ second) × (value_of asked q ≡ t)
  found_by asked first second t e =
      let r = some_passes (gives asked first second t) H e in
      let p = and_parts (first_of asked r.0 == first) ((second_of asked r.0 == second) && (value_of asked r.0 == t)) r.2 in
      let s = and_parts (second_of asked r.0 == second) (value_of asked r.0 == t) p.1 in
      (r.0, r.1, eqb-true (first_of asked r.0) first p.0, eqb-true (second_of asked r.0) second s.0, eqb-true (value_of asked r.0) t s.1)

  finds : (asked : Asked) (first second t : ℕ) (q : Quad) → In q H → first_of asked q ≡ first → second_of asked q ≡ second → value_of asked q ≡ t → list_any (gives asked first second t) H ≡ true
  finds asked first second t q i a b c =
      passes_some (gives asked first second t) H q i
      (and_from _ _ (eq-eqb _ first a) (and_from _ _ (eq-eqb _ second b) (eq-eqb _ t c)))

  one_both : (q : Quad) → second_of AsBoth q ≡ 1 → q.s ≡ q.o
  one_both q e = by (q.s == q.o) refl e
    where
      by : (b : Bool) → (q.s == q.o) ≡ b → ◌≡◌ {A = ℕ} (if b then 1 else 0) 1 → q.s ≡ q.o
      by true f e = eqb-true q.s q.o f
      by false f e = absurd (omega arith)

  both_one : (q : Quad) → q.s ≡ q.o → second_of AsBoth q ≡ 1
  both_one q e = rw (eq-eqb q.s q.o e) refl

  pub tells : (c : Condition) (t : ℕ) → (meets_in H images c t ≡ true) ↔ Meets H images c t
  tells (Subject p o) t = (
    λ e. (let r = found_by AsSubject p (end_at images o) t e in record { triple = r.0; there = r.1; s_is = r.4; p_is = r.2; o_is = r.3 }),
    λ m. finds AsSubject p
        (end_at images o) t m.triple m.there m.p_is m.o_is m.s_is,
  )
  tells (Object s p) t = (
    λ e. (let r = found_by AsObject (end_at images s) p t e in record { triple = r.0; there = r.1; s_is = r.2; p_is = r.3; o_is = r.4 }),
    λ m. finds AsObject
        (end_at images s) p t m.triple m.there m.s_is m.p_is m.o_is,
  )
  tells (Both p) t = (
    λ e. (let r = found_by AsBoth p 1 t e in record { triple = r.0; there = r.1; s_is = r.4; p_is = r.2; o_is = sym (one_both r.0 r.3) ∙ r.4 }),
    λ m. finds AsBoth p 1 t m.triple m.there m.p_is
        (both_one m.triple (m.s_is ∙ sym m.o_is)) m.s_is,
  )
  tells (SomeSubject p) t = (
    λ e. (let r = found_by AsSomeSubject p 0 t e in (r.0.o, record { triple = r.0; there = r.1; s_is = r.4; p_is = r.2; o_is = refl })),
    λ m. finds AsSomeSubject p 0 t m.1.triple m.1.there m.1.p_is refl m.1.s_is,
  )
  tells (SomeObject p) t = (
    λ e. (let r = found_by AsSomeObject p 0 t e in (r.0.s, record { triple = r.0; there = r.1; s_is = refl; p_is = r.2; o_is = r.4 })),
    λ m. finds AsSomeObject p 0 t m.1.triple m.1.there m.1.p_is refl m.1.o_is,
  )

pub index_tells : (H : List Quad) (terms : ℕ) → ((q : Quad) → In q H → (q.s < terms) × (q.o < terms)) → ((q : Quad) → In q H → q.g ≡ None) → TellsMeets H terms (meets_in H)
index_tells H terms bounded unnamed = record { tells = tells H; bounded = bounded; unnamed = unnamed }
