-- Terms keep their numbers as a table grows, and so quads keep their statements.
use Rattle.std.proofs.Common.{◌≡◌, ℕ, ◌+◌, ◌<◌, ◌≤◌, ◌⊎◌, List, [], ◌∷◌, ◌++◌, Option, Some, None, IfSome, slice_get, length, map, inl, inr, refl, sym, ap, subst, ◌∙◌, arith, All, length-append, append_assoc}
use Rattle.std.proofs.lemmas.Option.{slice_get_within, get_or_from_slice_get, slice_get-get_or}
use Rattle.std.proofs.lemmas.List.Elements.{All-head, All-tail, All-weaker}
use Rattle.std.proofs.lemmas.Grind.{elements}
use Rattle.rdf_terms.specs.Lists.{In}
use Rattle.rdf_terms.specs.Document.{statement, term_at, graph_name_at, IsInRange, Extends, Interns, IsTermOf, Numbers}
use Rattle.rdf_terms.specs.declared.term.Term.{Term}
use Rattle.rdf_terms.specs.declared.term.Term.TheVariants.{Blank}
use Rattle.rdf_terms.specs.declared.term.Quad.{Quad}
use Rattle.rdf_terms.proofs.Membership.{Extends-adds, In-append}

pub extends-trans : {A : Type 0} (a b c : List A) → Extends a b → Extends b c → Extends a c
extends-trans a b c p q = (p.0 ++ q.0, q.1 ∙ ap (λ l. l ++ q.0) p.1 ∙ append_assoc a p.0 q.0)

-- ---- quads over a table that has grown

longer : (ts more : List Term) (n : ℕ) → n < length ts → n < length (ts ++ more)
longer ts more n h = omega (arith, length-append ts more)

term_kept : (ts more : List Term) (n : ℕ) → n < length ts → term_at (ts ++ more) n ≡ term_at ts n
term_kept ts more n h = grind (arith, elements)

graph_longer : (ts more : List Term) (g : Option ℕ) → IfSome g (λ n. n < length ts) → IfSome g (λ n. n < length (ts ++ more))
graph_longer ts more None h = tt
graph_longer ts more (Some n) h = longer ts more n h

graph_kept : (ts more : List Term) (g : Option ℕ) → IfSome g (λ n. n < length ts) → graph_name_at (ts ++ more) g ≡ graph_name_at ts g
graph_kept ts more None h = refl
graph_kept ts more (Some n) h = ap Some (term_kept ts more n h)

in_range_more : (ts more : List Term) (q : Quad) → IsInRange ts q → IsInRange (ts ++ more) q
in_range_more ts more q h = record { s = longer ts more q.s h.s; p = longer ts more q.p h.p; o = longer ts more q.o h.o; g = graph_longer ts more q.g h.g }

statement_more : (ts more : List Term) (q : Quad) → IsInRange ts q → statement (ts ++ more) q ≡ statement ts q
statement_more ts more q h = λ i. record {
  subject = term_kept ts more q.s h.s i;
  predicate = term_kept ts more q.p h.p i;
  object = term_kept ts more q.o h.o i;
  graph_name = graph_kept ts more q.g h.g i;
}

pub All-IsInRange-extends : (ts us : List Term) (qs : List Quad) → Extends ts us → All (IsInRange ts) qs → All (IsInRange us) qs
All-IsInRange-extends ts us qs e h = rw e.1 (All-weaker (IsInRange ts) (IsInRange (ts ++ e.0)) (in_range_more ts e.0) qs h)

statements_more : (ts more : List Term) (qs : List Quad) → All (IsInRange ts) qs → map (statement (ts ++ more)) qs ≡ map (statement ts) qs
statements_more ts more [] h = refl
statements_more ts more (q ∷ qs) h = λ i. statement_more ts more q (All-head (IsInRange ts) q qs h) i ∷ statements_more ts more qs (All-tail (IsInRange ts) q qs h) i

pub map-statement-extends : (ts us : List Term) (qs : List Quad) → Extends ts us → All (IsInRange ts) qs → map (statement us) qs ≡ map (statement ts) qs
map-statement-extends ts us qs e h = rw e.1 (statements_more ts e.0 qs h)

-- ---- what numbering a statement's terms gives

pub kept : (old new : List Term) (n : ℕ) (t : Term) → Extends old new → slice_get old n ≡ Some t → slice_get new n ≡ Some t
kept old new n t e h = rw e.1 (grind (arith, elements, slice_get_within old n t h, slice_get-get_or (old ++ e.0) n t, get_or_from_slice_get old n t t h))

module _ (old new : List Term) (t : Term) (n : ℕ) (h : Interns old new t n) where
  pub Extends-interns : Extends old new
  Extends-interns = Extends-adds old t new h.adds

  pub Interns-bound : length new ≤ length old + 1
  Interns-bound = elim h.adds as (λ _. length new ≤ length old + 1) [ inl p ↦ omega (arith, ap length p.0) | inr p ↦ omega (arith, ap length p.0, length-append old (t ∷ [])) ]

  pub Interns-more : (x : Term) → In x new → In x old ⊎ (x ≡ t)
  Interns-more x there = elim h.adds as (λ _. In x old ⊎ (x ≡ t)) [ inl p ↦ inl (subst (In x) p.0 there) | inr p ↦ last (In-append old (t ∷ []) x (subst (In x) p.0 there)) ]
    where
      last : In x old ⊎ In x (t ∷ []) → In x old ⊎ (x ≡ t)
      last (inl l) = inl l
      last (inr (inl e)) = inr e
      last (inr (inr z)) = absurd z

  pub Interns-known : In t old → new ≡ old
  Interns-known there = elim h.adds as (λ _. new ≡ old) [ inl p ↦ p.0 | inr p ↦ absurd (p.1 there) ]

named : (terms : List Term) (q : Quad) (s p o : Term) (g : Option Term) → slice_get terms q.s ≡ Some s → slice_get terms q.p ≡ Some p → slice_get terms q.o ≡ Some o
    → graph_name_at terms q.g ≡ g → statement terms q ≡ record { subject = s; predicate = p; object = o; graph_name = g }
named terms q s p o g a b c e = λ i. record {
  subject = get_or_from_slice_get terms q.s s (Blank 0) a i;
  predicate = get_or_from_slice_get terms q.p p (Blank 0) b i;
  object = get_or_from_slice_get terms q.o o (Blank 0) c i;
  graph_name = e i;
}

-- subject, object and predicate are added in this order, and behind them the graph name
module _ (t u v w : List Term) (a b c : Term) (x y z : ℕ) (p : Interns t u a x) (q : Interns u v b y) (r : Interns v w c z) where
  uv : Extends u v
  uv = Extends-interns u v b y q

  vw : Extends v w
  vw = Extends-interns v w c z r

  pub Extends-three : Extends t w
  Extends-three = extends-trans t u w (Extends-interns t u a x p) (extends-trans u v w uv vw)

  at_a : slice_get w x ≡ Some a
  at_a = kept u w x a (extends-trans u v w uv vw) p.at

  at_b : slice_get w y ≡ Some b
  at_b = kept v w y b vw q.at

  more_three : (n : Term) → In n w → In n t ⊎ ((n ≡ a) ⊎ ((n ≡ b) ⊎ (n ≡ c)))
  more_three n h = third (Interns-more v w c z r n h)
    where
      first : In n t ⊎ (n ≡ a) → In n t ⊎ ((n ≡ a) ⊎ ((n ≡ b) ⊎ (n ≡ c)))
      first (inl k) = inl k
      first (inr e) = inr (inl e)

      second : In n u ⊎ (n ≡ b) → In n t ⊎ ((n ≡ a) ⊎ ((n ≡ b) ⊎ (n ≡ c)))
      second (inl j) = first (Interns-more t u a x p n j)
      second (inr e) = inr (inr (inl e))

      third : In n v ⊎ (n ≡ c) → In n t ⊎ ((n ≡ a) ⊎ ((n ≡ b) ⊎ (n ≡ c)))
      third (inl i) = second (Interns-more u v b y q n i)
      third (inr e) = inr (inr (inr e))

  known_three : In a t → In b t → In c t → w ≡ t
  known_three i j k =
      let ut : u ≡ t = Interns-known t u a x p i in
      let vu : v ≡ u = Interns-known u v b y q (subst (In b) (sym ut) j) in
      let wv : w ≡ v = Interns-known v w c z r (subst (In c) (sym (vu ∙ ut)) k) in
      wv ∙ vu ∙ ut

  wider : (g : Option Term) (n : Term) → In n t ⊎ ((n ≡ a) ⊎ ((n ≡ b) ⊎ (n ≡ c))) → In n t ⊎ IsTermOf n (record { subject = a; predicate = c; object = b; graph_name = g })
  wider g n (inl i) = inl i
  wider g n (inr (inl e)) = inr (inl e)
  wider g n (inr (inr (inl e))) = inr (inr (inr (inl e)))
  wider g n (inr (inr (inr e))) = inr (inr (inl e))

  bound_three : length w ≤ length t + 3
  bound_three = omega (arith, Interns-bound t u a x p, Interns-bound u v b y q, Interns-bound v w c z r)

  pub Numbers-three : Numbers t w (record { subject = a; predicate = c; object = b; graph_name = None }) (record { s = x; p = z; o = y; g = None })
  Numbers-three = record {
    in_range = record { s = slice_get_within w x a at_a; p = slice_get_within w z c r.at; o = slice_get_within w y b at_b; g = tt };
    statement_is = named w (record { s = x; p = z; o = y; g = None }) a c b None at_a r.at at_b refl;
    bound = omega (arith, bound_three);
    more = λ n h. wider None n (more_three n h);
    known = λ k. known_three (k a (inl refl)) (k b (inr (inr (inl refl)))) (k c (inr (inl refl)));
  }

  module _ (k : List Term) (d : Term) (n : ℕ) (l : Interns w k d n) where
    wk : Extends w k
    wk = Extends-interns w k d n l

    pub Extends-four : Extends t k
    Extends-four = extends-trans t w k Extends-three wk

    pub Numbers-four : Numbers t k (record { subject = a; predicate = c; object = b; graph_name = Some d }) (record { s = x; p = z; o = y; g = Some n })
    Numbers-four =
        let ka = kept w k x a wk at_a in
        let kb = kept w k y b wk at_b in
        let kc = kept w k z c wk r.at in
        record {
          in_range = record { s = slice_get_within k x a ka; p = slice_get_within k z c kc; o = slice_get_within k y b kb; g = slice_get_within k n d l.at };
          statement_is = named k (record { s = x; p = z; o = y; g = Some n }) a c b (Some d) ka kc kb (ap Some (get_or_from_slice_get k n d (Blank 0) l.at));
          bound = omega (arith, bound_three, Interns-bound w k d n l);
          more = λ m h. elim (Interns-more w k d n l m h) [ inl i ↦ wider (Some d) m (more_three m i) | inr e ↦ inr (inr (inr (inr (ap Some e)))) ];
          known = λ f. let wt : w ≡ t = known_three (f a (inl refl)) (f b (inr (inr (inl refl)))) (f c (inr (inl refl))) in
              Interns-known w k d n l (subst (In d) (sym wt) (f d (inr (inr (inr refl))))) ∙ wt;
        }
