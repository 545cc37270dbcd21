-- What adding a quad by its terms makes of a draft.
use Rattle.std.proofs.Common.{◌≡◌, ◌↔◌, ℕ, ◌+◌, ◌<◌, ◌⊎◌, Bool, true, false, not, IsTrue, List, [], ◌∷◌, ◌++◌, Option, Some, None, IfSome, length, map, inl, inr, refl, sym, ap, subst, ◌∙◌, true≢false, arith, All, length-append, eqb}
use Rattle.std.proofs.lemmas.Option.{slice_get-get_or}
use Rattle.std.proofs.lemmas.List.Elements.{All-push}
use Rattle.std.proofs.lemmas.List.{map-append}
use Rattle.rdf_terms.specs.Lists.{In, AreDistinct}
use Rattle.rdf_terms.specs.Terms.{Statement, IsValidStatement, IsIri}
use Rattle.rdf_terms.specs.Dataset.{IsUsed, mentions, is_node, is_named_by}
use Rattle.rdf_terms.specs.Document.{Document, statement, statements, term_at, graph_name_at, IsInRange, Extends, Adds, IsTermOf, Numbers, IsDraft}
use Rattle.rdf_terms.specs.declared.term.Term.{Term}
use Rattle.rdf_terms.specs.declared.term.Term.TheVariants.{Blank}
use Rattle.rdf_terms.specs.declared.term.Quad.{Quad}
use Rattle.rdf_terms.specs.declared.term.Label.{Label}
use Rattle.rdf_terms.proofs.Membership.{In-map, from_In-map, In-at, In-append_left, In-append_right, AreDistinct-adds, one_place}
use Rattle.rdf_terms.proofs.Growing.{All-IsInRange-extends, map-statement-extends}
use Rattle.std.proofs.lemmas.Bool.{or_left, or_right}
use Rattle.rdf_terms.proofs.MadeLists.{each-from_All}

-- ---- equal statements are of one quad

module _ (ts : List Term) (distinct : AreDistinct ts) where
  number_is : (m n : ℕ) → m < length ts → n < length ts → term_at ts m ≡ term_at ts n → m ≡ n
  number_is m n l k e = one_place ts m n (term_at ts m) distinct (slice_get-get_or ts m (Blank 0) l) (slice_get-get_or ts n (Blank 0) k ∙ ap Some (sym e))

  graph_is : (g h : Option ℕ) → IfSome g (λ n. n < length ts) → IfSome h (λ n. n < length ts) → graph_name_at ts g ≡ graph_name_at ts h → g ≡ h
  graph_is None None a b e = refl
  graph_is None (Some n) a b e = cc
  graph_is (Some m) None a b e = cc
  graph_is (Some m) (Some n) a b e = let same : term_at ts m ≡ term_at ts n = cc in ap Some (number_is m n a b same)

  pub statement_injective : (a b : Quad) → IsInRange ts a → IsInRange ts b → statement ts a ≡ statement ts b → a ≡ b
  statement_injective a b p q e = λ i. record {
    s = number_is a.s b.s p.s q.s (ap (λ (t : Statement). t.subject) e) i;
    p = number_is a.p b.p p.p q.p (ap (λ (t : Statement). t.predicate) e) i;
    o = number_is a.o b.o p.o q.o (ap (λ (t : Statement). t.object) e) i;
    g = graph_is a.g b.g p.g q.g (ap (λ (t : Statement). t.graph_name) e) i;
  }

  from_statements : (qs : List Quad) (q : Quad) → All (IsInRange ts) qs → IsInRange ts q → In (statement ts q) (map (statement ts) qs) → In q qs
  from_statements qs q all one there =
      let p = from_In-map (statement ts) qs (statement ts q) there in
      let same : q ≡ p.0 = statement_injective q p.0 one (each-from_All (IsInRange ts) qs p.0 all p.1) p.2 in
      subst (λ r. In r qs) (sym same) p.1

-- ---- the blank nodes of a statement are those that it mentions

itself : (n : ℕ) → eqb n n ≡ true
itself n = grind arith

pub mentions-term : (nodes n : ℕ) (st : Statement) → IsValidStatement nodes st → IsTermOf (Blank n) st → mentions n st ≡ true
mentions-term nodes n st v (inl e) = or_left _ _ (ap (is_node n) (sym e) ∙ itself n)
mentions-term nodes n st v (inr (inl e)) = absurd (subst IsIri (sym e) v.predicate_kind)
mentions-term nodes n st v (inr (inr (inl e))) = or_right _ _ (or_left _ _ (ap (is_node n) (sym e) ∙ itself n))
mentions-term nodes n st v (inr (inr (inr e))) = or_right _ _ (or_right _ _ (ap (is_named_by n) (sym e) ∙ itself n))

IsUsed-more : (xs ys : List Statement) (n : ℕ) → IsUsed xs n → IsUsed (xs ++ ys) n
IsUsed-more xs ys n u = record { statement = u.statement; there = In-append_left xs ys u.statement u.there; mentioned = u.mentioned }

-- ---- the draft after a quad was added

module _ (ts us : List Term) (old new : List Quad) (labels : List Label) (q : Quad) (st : Statement) where
  abbrev before : Document
  before = record { terms = ts; quads = old; labels = labels }

  abbrev after : Document
  after = record { terms = us; quads = new; labels = labels }

  -- what adding gives
  pub record Added : Type 0 where
    pub draft : IsDraft after
    pub adds : Adds (statements before) st (statements after)
    pub there : In q old → In st (statements before)
    pub gone : (¬ (In q old)) → ¬ (In st (statements before))

  module _ (d : IsDraft before) (e : Extends ts us) (distinct : AreDistinct us) (n : Numbers ts us st q) (v : IsValidStatement (length labels) st) (room : length old < 1000000000) where
    keep : map (statement us) old ≡ map (statement ts) old
    keep = map-statement-extends ts us old e d.in_range

    there : In q old → In st (statements before)
    there h = subst (In st) keep (subst (λ s. In s (map (statement us) old)) n.statement_is (In-map (statement us) old q h))

    gone : (¬ (In q old)) → ¬ (In st (statements before))
    gone absent h =
        absent (from_statements us distinct old q (All-IsInRange-extends ts us old e d.in_range) n.in_range
        (subst (λ s. In s (map (statement us) old)) (sym n.statement_is) (subst (In st) (sym keep) h)))

    -- the terms of a statement that is there are those of the table
    known : In st (statements before) → us ≡ ts
    known h =
        let p = from_In-map (statement ts) old st h in
        let r = each-from_All (IsInRange ts) old p.0 d.in_range p.1 in
        n.known (is_there p.0 r p.2)
      where
        at : (k : ℕ) → k < length ts → In (term_at ts k) ts
        at k l = In-at ts k (term_at ts k) (slice_get-get_or ts k (Blank 0) l)

        graph_there : (g : Option ℕ) → IfSome g (λ k. k < length ts) → (t : Term) → Some t ≡ graph_name_at ts g → In t ts
        graph_there None l t x = cc
        graph_there (Some k) l t x = let same : t ≡ term_at ts k = cc in subst (λ y. In y ts) (sym same) (at k l)

        is_there : (p : Quad) → IsInRange ts p → st ≡ statement ts p → (t : Term) → IsTermOf t st → In t ts
        is_there p r x t (inl y) = subst (λ z. In z ts) (sym (y ∙ ap (λ (s : Statement). s.subject) x)) (at p.s r.s)
        is_there p r x t (inr (inl y)) = subst (λ z. In z ts) (sym (y ∙ ap (λ (s : Statement). s.predicate) x)) (at p.p r.p)
        is_there p r x t (inr (inr (inl y))) = subst (λ z. In z ts) (sym (y ∙ ap (λ (s : Statement). s.object) x)) (at p.o r.o)
        is_there p r x t (inr (inr (inr y))) = graph_there p.g r.g t (y ∙ ap (λ (s : Statement). s.graph_name) x)

    unchanged : new ≡ old → In q old → Added
    unchanged same h =
        let us_is : us ≡ ts = known (there h) in
        let document_is : before ≡ after = λ i. record { terms = sym us_is i; quads = sym same i; labels = labels } in
        record {
          draft = subst IsDraft document_is d;
          adds = inl (ap statements (sym document_is), there h);
          there = there;
          gone = gone;
        }

    statements_are : new ≡ old ++ q ∷ [] → statements after ≡ statements before ++ st ∷ []
    statements_are same = ap (map (statement us)) same ∙ map-append (statement us) old (q ∷ []) ∙ (λ i. keep i ++ n.statement_is i ∷ [])

    used : (m : ℕ) → In (Blank m) us → IsUsed (statements before ++ st ∷ []) m
    used m h = by (n.more (Blank m) h)
      where
        by : In (Blank m) ts ⊎ IsTermOf (Blank m) st → IsUsed (statements before ++ st ∷ []) m
        by (inl i) = IsUsed-more (statements before) (st ∷ []) m (d.term_used m i)
        by (inr i) = record { statement = st; there = In-append_right (statements before) (st ∷ []) st (inl refl); mentioned = mentions-term (length labels) m st v i }

    grown : new ≡ old ++ q ∷ [] → (¬ (In q old)) → Added
    grown same h =
        let are = statements_are same in
        let longer : length new ≡ length old + 1 = ap length same ∙ length-append old (q ∷ []) in
        let adds : Adds (statements before) st (statements after) = inr (are, gone h) in
        record {
          draft = record {
            in_range = rw same (All-push (IsInRange us) old q (All-IsInRange-extends ts us old e d.in_range) n.in_range);
            valid = rw are (All-push (IsValidStatement (length labels)) (statements before) st d.valid v);
            distinct = AreDistinct-adds (statements before) st (statements after) adds d.distinct;
            distinct_labels = d.distinct_labels;
            term_used = λ m i. subst (λ l. IsUsed l m) (sym are) (used m i);
            terms_bound = omega (arith, n.bound, d.terms_bound, longer);
            quads_bound = omega (arith, room, longer);
            labels_bound = d.labels_bound;
          };
          adds = adds;
          there = there;
          gone = gone;
        }

    pub Added-adds : Adds old q new → Added
    Added-adds (inl p) = unchanged p.0 p.1
    Added-adds (inr p) = grown p.0 p.1

  -- what the answer of an insertion says
  pub told_new : Added → (b r : Bool) → r ≡ not b → (b ≡ true → In q old) → (b ≡ false → ¬ (In q old)) → IsTrue r ↔ (¬ (In st (statements before)))
  told_new a true r is present absent = (λ t. absurd (true≢false (sym t ∙ is)), λ n. absurd (n (a.there (present refl))))
  told_new a false r is present absent = (λ _. a.gone (absent refl), λ _. is)
