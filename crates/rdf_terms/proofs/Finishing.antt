-- What leaving out the nodes that stand in no quad makes of a draft.
use Rattle.std.proofs.Common.{◌≡◌, ℕ, ◌<◌, Bool, true, false, ◌||◌, List, [], ◌∷◌, Option, Some, None, IfSome, length, map, inl, inr, refl, sym, ap, subst, ◌∙◌, true≢false, arith, All, get_or, eqb}
use Rattle.std.proofs.lemmas.Bool.{eqb-true}
use Rattle.std.proofs.lemmas.List.{length-map, get_or-map, same_lists, get_or_default}
use Rattle.std.proofs.lemmas.Option.{slice_get-get_or}
use Rattle.rdf_terms.specs.Lists.{In, AreDistinct, numbers_below}
use Rattle.rdf_terms.specs.Terms.{Statement, IsValidStatement, IsValidTerm, IsIri, IsIriOrBlank}
use Rattle.rdf_terms.specs.Dataset.{IsUsed, mentions, is_node, is_named_by}
use Rattle.rdf_terms.specs.Isomorphism.{relabel_term, relabel_graph_name, relabel_statement}
use Rattle.rdf_terms.specs.Document.{Document, statement, statements, term_at, graph_name_at, IsInRange, IsDraft, IsDocument, is_mentioned, used_below, new_number, label_at, Finishes}
use Rattle.rdf_terms.specs.declared.term.Term.{Term}
use Rattle.rdf_terms.specs.declared.term.Term.TheVariants.{Iri, Blank, Literal}
use Rattle.rdf_terms.specs.declared.term.Quad.{Quad}
use Rattle.rdf_terms.specs.declared.term.Label.{Label}
use Rattle.rdf_terms.specs.declared.term.Label.TheVariants.{Anonymous}
use Rattle.rdf_terms.proofs.Membership.{In-map, from_In-map, one_place}
use Rattle.rdf_terms.proofs.Adding.{mentions-term}
use Rattle.rdf_terms.proofs.Ranks.{from_In-numbers_below, AreDistinct-numbers_below, length-numbers_below, get_or-numbers_below, rank-lt, rank-bound, rank-injective, rank-onto, rank-all, filter-numbers_below_all}
use Rattle.rdf_terms.proofs.MadeLists.{from_In-filter, AreDistinct-filter, All-from_each, each-from_All, AreDistinct-map, map-agree, map-map, map-same}

-- ---- nodes that a statement mentions

pub IsUsed-mentioned : (sts : List Statement) (n : ℕ) → is_mentioned sts n ≡ true → IsUsed sts n
IsUsed-mentioned [] n h = absurd (true≢false (sym h))
IsUsed-mentioned (st ∷ sts) n h = by (mentions n st) refl h (IsUsed-mentioned sts n)
  where
    by : (b : Bool) → mentions n st ≡ b → (b || is_mentioned sts n) ≡ true → (is_mentioned sts n ≡ true → IsUsed sts n) → IsUsed (st ∷ sts) n
    by true e h rest = record { statement = st; there = inl refl; mentioned = e }
    by false e h rest = let u = rest h in record { statement = u.statement; there = inr u.there; mentioned = u.mentioned }

pub mentioned-In : (sts : List Statement) (n : ℕ) (st : Statement) → In st sts → mentions n st ≡ true → is_mentioned sts n ≡ true
mentioned-In [] n st there h = absurd there
mentioned-In (s ∷ sts) n st (inl e) h = let m : mentions n s ≡ true = subst (λ x. mentions n x ≡ true) e h in rw m refl
mentioned-In (s ∷ sts) n st (inr there) h = later (mentions n s) (is_mentioned sts n) (mentioned-In sts n st there h)
  where
    later : (b c : Bool) → c ≡ true → (b || c) ≡ true
    later true c e = refl
    later false c e = e

module _ (σ : ℕ → ℕ) (n : ℕ) where
  itself : (m : ℕ) → eqb m m ≡ true
  itself m = grind arith

  node_relabelled : (t : Term) → is_node n t ≡ true → is_node (σ n) (relabel_term σ t) ≡ true
  node_relabelled (Iri t) h = absurd (true≢false (sym h))
  node_relabelled (Blank m) h = let e : m ≡ n = eqb-true m n h in rw e (itself (σ n))
  node_relabelled (Literal l) h = absurd (true≢false (sym h))

  graph_relabelled : (g : Option Term) → is_named_by n g ≡ true → is_named_by (σ n) (relabel_graph_name σ g) ≡ true
  graph_relabelled None h = absurd (true≢false (sym h))
  graph_relabelled (Some t) h = node_relabelled t h

  either : (a b c d e f : Bool) → (a ≡ true → d ≡ true) → (b ≡ true → e ≡ true) → (c ≡ true → f ≡ true) → (a || (b || c)) ≡ true → (d || (e || f)) ≡ true
  either true b c d e f x y z h = rw (x refl) refl
  either false true c true e f x y z h = refl
  either false true c false e f x y z h = rw (y refl) refl
  either false false c true e f x y z h = refl
  either false false c false true f x y z h = refl
  either false false c false false f x y z h = z h

  pub mentions-relabelled : (st : Statement) → mentions n st ≡ true → mentions (σ n) (relabel_statement σ st) ≡ true
  mentions-relabelled st h = either _ _ _ _ _ _ (node_relabelled st.subject) (node_relabelled st.object) (graph_relabelled st.graph_name) h

-- ---- statements over relabelled terms

module _ (σ : ℕ → ℕ) (ts : List Term) where
  term_relabelled : (n : ℕ) → n < length ts → term_at (map (relabel_term σ) ts) n ≡ relabel_term σ (term_at ts n)
  term_relabelled n l = get_or-map (relabel_term σ) ts n (Blank 0) (Blank 0) l

  graph_name_relabelled : (g : Option ℕ) → IfSome g (λ n. n < length ts) → graph_name_at (map (relabel_term σ) ts) g ≡ relabel_graph_name σ (graph_name_at ts g)
  graph_name_relabelled None l = refl
  graph_name_relabelled (Some n) l = ap Some (term_relabelled n l)

  statement_relabelled : (q : Quad) → IsInRange ts q → statement (map (relabel_term σ) ts) q ≡ relabel_statement σ (statement ts q)
  statement_relabelled q r = λ i. record {
    subject = term_relabelled q.s r.s i;
    predicate = term_relabelled q.p r.p i;
    object = term_relabelled q.o r.o i;
    graph_name = graph_name_relabelled q.g r.g i;
  }

  pub statements_relabelled : (qs : List Quad) → All (IsInRange ts) qs → map (statement (map (relabel_term σ) ts)) qs ≡ map (relabel_statement σ) (map (statement ts) qs)
  statements_relabelled qs r = map-agree _ _ qs (λ q i. statement_relabelled q (each-from_All (IsInRange ts) qs q r i)) ∙ sym (map-map (relabel_statement σ) (statement ts) qs)

in_range_relabelled : (σ : ℕ → ℕ) (ts : List Term) (q : Quad) → IsInRange ts q → IsInRange (map (relabel_term σ) ts) q
in_range_relabelled σ ts q r = let e = length-map ts (relabel_term σ) in record {
  s = omega (arith, e, r.s);
  p = omega (arith, e, r.p);
  o = omega (arith, e, r.o);
  g = subst (λ n. IfSome q.g (λ k. k < n)) (sym e) r.g;
}

-- ---- relabelling where it matters: at the nodes that a statement mentions

module _ (nodes : ℕ) (st : Statement) (v : IsValidStatement nodes st) where
  pub mentioned_subject : (n : ℕ) → Blank n ≡ st.subject → mentions n st ≡ true
  mentioned_subject n e = mentions-term nodes n st v (inl e)

  pub mentioned_object : (n : ℕ) → Blank n ≡ st.object → mentions n st ≡ true
  mentioned_object n e = mentions-term nodes n st v (inr (inr (inl e)))

  pub mentioned_graph_name : (n : ℕ) → Some (Blank n) ≡ st.graph_name → mentions n st ≡ true
  mentioned_graph_name n e = mentions-term nodes n st v (inr (inr (inr e)))

  -- a map that keeps the nodes that the statement mentions below a number keeps the statement valid
  module _ (σ : ℕ → ℕ) (kept : ℕ) (low : (n : ℕ) → n < nodes → mentions n st ≡ true → σ n < kept) where
    term_valid : (t : Term) → ((n : ℕ) → Blank n ≡ t → mentions n st ≡ true) → IsValidTerm nodes t → IsValidTerm kept (relabel_term σ t)
    term_valid (Iri t) m h = h
    term_valid (Blank n) m h = low n h (m n refl)
    term_valid (Literal l) m h = h

    iri_valid : (t : Term) → IsIri t → IsValidTerm nodes t → IsValidTerm kept (relabel_term σ t)
    iri_valid (Iri t) i h = h
    iri_valid (Blank n) i h = absurd i
    iri_valid (Literal l) i h = absurd i

    graph_valid : (g : Option Term) → ((n : ℕ) → Some (Blank n) ≡ g → mentions n st ≡ true) → IfSome g (IsValidTerm nodes) → IfSome (relabel_graph_name σ g) (IsValidTerm kept)
    graph_valid None m h = tt
    graph_valid (Some t) m h = term_valid t (λ n e. m n (ap Some e)) h

    kind_kept : (t : Term) → IsIriOrBlank t → IsIriOrBlank (relabel_term σ t)
    kind_kept (Iri t) h = tt
    kind_kept (Blank n) h = tt
    kind_kept (Literal l) h = h

    iri_kept : (t : Term) → IsIri t → IsIri (relabel_term σ t)
    iri_kept (Iri t) h = tt
    iri_kept (Blank n) h = h
    iri_kept (Literal l) h = h

    graph_kind_kept : (g : Option Term) → IfSome g IsIriOrBlank → IfSome (relabel_graph_name σ g) IsIriOrBlank
    graph_kind_kept None h = tt
    graph_kind_kept (Some t) h = kind_kept t h

    pub IsValidStatement-relabelled : IsValidStatement kept (relabel_statement σ st)
    IsValidStatement-relabelled = record {
      subject_kind = kind_kept st.subject v.subject_kind;
      predicate_kind = iri_kept st.predicate v.predicate_kind;
      graph_name_kind = graph_kind_kept st.graph_name v.graph_name_kind;
      subject = term_valid st.subject mentioned_subject v.subject;
      predicate = iri_valid st.predicate v.predicate_kind v.predicate;
      object = term_valid st.object mentioned_object v.object;
      graph_name = graph_valid st.graph_name mentioned_graph_name v.graph_name;
    }

-- a map that keeps the nodes of two statements apart keeps the statements apart
module _ (nodes : ℕ) (a b : Statement) (va : IsValidStatement nodes a) (vb : IsValidStatement nodes b) (σ : ℕ → ℕ)
    (apart : (m n : ℕ) → mentions m a ≡ true → mentions n b ≡ true → σ m ≡ σ n → m ≡ n) where
  term_injective : (s t : Term) → ((n : ℕ) → Blank n ≡ s → mentions n a ≡ true) → ((n : ℕ) → Blank n ≡ t → mentions n b ≡ true) → relabel_term σ s ≡ relabel_term σ t → s ≡ t
  term_injective (Iri s) (Iri t) p q e = e
  term_injective (Iri s) (Blank t) p q e = cc
  term_injective (Iri s) (Literal t) p q e = e
  term_injective (Blank s) (Iri t) p q e = cc
  term_injective (Blank s) (Blank t) p q e = let same : σ s ≡ σ t = cc in ap Blank (apart s t (p s refl) (q t refl) same)
  term_injective (Blank s) (Literal t) p q e = cc
  term_injective (Literal s) (Iri t) p q e = e
  term_injective (Literal s) (Blank t) p q e = cc
  term_injective (Literal s) (Literal t) p q e = e

  iri_injective : (s t : Term) → IsIri s → IsIri t → relabel_term σ s ≡ relabel_term σ t → s ≡ t
  iri_injective (Iri s) (Iri t) p q e = e
  iri_injective (Iri s) (Blank t) p q e = absurd q
  iri_injective (Iri s) (Literal t) p q e = absurd q
  iri_injective (Blank s) t p q e = absurd p
  iri_injective (Literal s) t p q e = absurd p

  graph_injective : (s t : Option Term) → ((n : ℕ) → Some (Blank n) ≡ s → mentions n a ≡ true) → ((n : ℕ) → Some (Blank n) ≡ t → mentions n b ≡ true)
      → relabel_graph_name σ s ≡ relabel_graph_name σ t → s ≡ t
  graph_injective None None p q e = refl
  graph_injective None (Some t) p q e = cc
  graph_injective (Some s) None p q e = cc
  graph_injective (Some s) (Some t) p q e = let same : relabel_term σ s ≡ relabel_term σ t = cc in ap Some (term_injective s t (λ n x. p n (ap Some x)) (λ n x. q n (ap Some x)) same)

  pub relabel_statement-injective : relabel_statement σ a ≡ relabel_statement σ b → a ≡ b
  relabel_statement-injective e = λ i. record {
    subject = term_injective a.subject b.subject (mentioned_subject nodes a va) (mentioned_subject nodes b vb) (ap (λ (s : Statement). s.subject) e) i;
    predicate = iri_injective a.predicate b.predicate va.predicate_kind vb.predicate_kind (ap (λ (s : Statement). s.predicate) e) i;
    object = term_injective a.object b.object (mentioned_object nodes a va) (mentioned_object nodes b vb) (ap (λ (s : Statement). s.object) e) i;
    graph_name = graph_injective a.graph_name b.graph_name (mentioned_graph_name nodes a va) (mentioned_graph_name nodes b vb) (ap (λ (s : Statement). s.graph_name) e) i;
  }

-- ---- a node that a valid statement mentions is one of the nodes

pub one_of : (a b c : Bool) {P : Type 0} → (a ≡ true → P) → (b ≡ true → P) → (c ≡ true → P) → (a || (b || c)) ≡ true → P
one_of true b c x y z h = x refl
one_of false true c x y z h = y refl
one_of false false c x y z h = z h

module _ (nodes n : ℕ) where
  node_low : (t : Term) → IsValidTerm nodes t → is_node n t ≡ true → n < nodes
  node_low (Iri t) v h = absurd (true≢false (sym h))
  node_low (Blank m) v h = let e : m ≡ n = eqb-true m n h in subst (λ x. x < nodes) e v
  node_low (Literal l) v h = absurd (true≢false (sym h))

  graph_low : (g : Option Term) → IfSome g (IsValidTerm nodes) → is_named_by n g ≡ true → n < nodes
  graph_low None v h = absurd (true≢false (sym h))
  graph_low (Some t) v h = node_low t v h

  pub mentioned_low : (st : Statement) → IsValidStatement nodes st → mentions n st ≡ true → n < nodes
  mentioned_low st v h = one_of _ _ _ (node_low st.subject v.subject) (node_low st.object v.object) (graph_low st.graph_name v.graph_name) h

-- the labels of all nodes are all labels
map-label_at_from : (n : ℕ) (xs : List Label) → length xs ≡ n → map (label_at xs) (numbers_below n) ≡ xs
map-label_at_from n xs e =
    same_lists _ xs (length-map (numbers_below n) (label_at xs) ∙ length-numbers_below n ∙ sym e)
    (λ k d l. at k d (omega (arith, length-map (numbers_below n) (label_at xs), l, length-numbers_below n)))
  where
    at : (k : ℕ) (d : Label) → k < n → get_or (map (label_at xs) (numbers_below n)) k d ≡ get_or xs k d
    at k d l =
        let m : k < length (numbers_below n) = omega (arith, length-numbers_below n) in
        get_or-map (label_at xs) (numbers_below n) k 0 d m ∙ ap (label_at xs) (get_or-numbers_below n k l) ∙ get_or_default xs k (Anonymous 0) d (omega arith)

pub map-label_at : (xs : List Label) → map (label_at xs) (numbers_below (length xs)) ≡ xs
map-label_at xs = map-label_at_from (length xs) xs refl

-- ---- the document without the unused nodes

module _ (ts : List Term) (qs : List Quad) (labels : List Label) where
  abbrev before : Document
  before = record { terms = ts; quads = qs; labels = labels }

  abbrev pub finished_terms : List Term
  finished_terms = map (relabel_term (new_number (statements before))) ts

  abbrev pub finished_labels : List Label
  finished_labels = map (label_at labels) (used_below (statements before) (length labels))

  abbrev after : Document
  after = record { terms = finished_terms; quads = qs; labels = finished_labels }

  module _ (d : IsDraft before) where
    are : statements after ≡ map (relabel_statement (new_number (statements before))) (statements before)
    are = statements_relabelled (new_number (statements before)) ts qs d.in_range

    valid_at : (st : Statement) → In st (statements before) → IsValidStatement (length labels) st
    valid_at st i = each-from_All (IsValidStatement (length labels)) (statements before) st d.valid i

    labels_len : length finished_labels ≡ new_number (statements before) (length labels)
    labels_len = length-map (used_below (statements before) (length labels)) (label_at labels)

    low : (n : ℕ) → n < length labels → is_mentioned (statements before) n ≡ true → new_number (statements before) n < length finished_labels
    low n l m = omega (arith, rank-lt (is_mentioned (statements before)) n (length labels) l m, labels_len)

    valid_after : (st : Statement) → In st (map (relabel_statement (new_number (statements before))) (statements before)) → IsValidStatement (length finished_labels) st
    valid_after st i =
        let p = from_In-map (relabel_statement (new_number (statements before))) (statements before) st i in
        subst (IsValidStatement (length finished_labels)) (sym p.2)
        (IsValidStatement-relabelled (length labels) p.0 (valid_at p.0 p.1) (new_number (statements before)) (length finished_labels) (λ n l m. low n l (mentioned-In (statements before) n p.0 p.1 m)))

    distinct_after : AreDistinct (map (relabel_statement (new_number (statements before))) (statements before))
    distinct_after = AreDistinct-map (relabel_statement (new_number (statements before))) (statements before)
        (λ a b i j. relabel_statement-injective (length labels) a b (valid_at a i) (valid_at b j) (new_number (statements before))
        (λ m n x y. rank-injective (is_mentioned (statements before)) m n (mentioned-In (statements before) m a i x) (mentioned-In (statements before) n b j y)))
        d.distinct

    label_injective : (m n : ℕ) → m < length labels → n < length labels → label_at labels m ≡ label_at labels n → m ≡ n
    label_injective m n l k e = one_place labels m n (label_at labels m) d.distinct_labels (slice_get-get_or labels m (Anonymous 0) l) (slice_get-get_or labels n (Anonymous 0) k ∙ ap Some (sym e))

    used_is_low : (n : ℕ) → In n (used_below (statements before) (length labels)) → n < length labels
    used_is_low n i = from_In-numbers_below (length labels) n (from_In-filter (is_mentioned (statements before)) n (numbers_below (length labels)) i).0

    distinct_labels_after : AreDistinct finished_labels
    distinct_labels_after = AreDistinct-map (label_at labels) (used_below (statements before) (length labels))
        (λ m n i j e. label_injective m n (used_is_low m i) (used_is_low n j) e)
        (AreDistinct-filter (is_mentioned (statements before)) (numbers_below (length labels)) (AreDistinct-numbers_below (length labels)))

    used_after : (n : ℕ) → IsUsed (statements before) n → IsUsed (map (relabel_statement (new_number (statements before))) (statements before)) (new_number (statements before) n)
    used_after n u = record {
      statement = relabel_statement (new_number (statements before)) u.statement;
      there = In-map (relabel_statement (new_number (statements before))) (statements before) u.statement u.there;
      mentioned = mentions-relabelled (new_number (statements before)) n u.statement u.mentioned;
    }

    blank_from : (n : ℕ) (t : Term) → Blank n ≡ relabel_term (new_number (statements before)) t → (m : ℕ) × (t ≡ Blank m) × (n ≡ new_number (statements before) m)
    blank_from n (Iri t) e = cc
    blank_from n (Blank m) e = (m, refl, cc)
    blank_from n (Literal l) e = cc

    term_used_after : (n : ℕ) → In (Blank n) finished_terms → IsUsed (map (relabel_statement (new_number (statements before))) (statements before)) n
    term_used_after n i =
        let p = from_In-map (relabel_term (new_number (statements before))) ts (Blank n) i in
        let b = blank_from n p.0 p.2 in
        subst (IsUsed (map (relabel_statement (new_number (statements before))) (statements before))) (sym b.2) (used_after b.0 (d.term_used b.0 (subst (λ t. In t ts) b.1 p.1)))

    pub IsDraft-finished : IsDraft after
    IsDraft-finished = record {
      in_range = All-from_each (IsInRange finished_terms) qs (λ q i. in_range_relabelled (new_number (statements before)) ts q (each-from_All (IsInRange ts) qs q d.in_range i));
      valid = rw are (All-from_each (IsValidStatement (length finished_labels)) _ valid_after);
      distinct = rw are distinct_after;
      distinct_labels = distinct_labels_after;
      term_used = λ n i. rw are (term_used_after n i);
      terms_bound = omega (arith, length-map ts (relabel_term (new_number (statements before))), d.terms_bound);
      quads_bound = d.quads_bound;
      labels_bound = omega (arith, labels_len, d.labels_bound, rank-bound (is_mentioned (statements before)) (length labels));
    }

    pub IsDocument-finished : IsDocument after
    IsDocument-finished = record {
      draft = IsDraft-finished;
      used = λ k l.
          let r = rank-onto (is_mentioned (statements before)) (length labels) k (omega (arith, labels_len, l)) in
          rw are (subst (IsUsed (map (relabel_statement (new_number (statements before))) (statements before))) r.3 (used_after r.0 (IsUsed-mentioned (statements before) r.0 r.2)));
    }

    pub Finishes-finished : Finishes before after
    Finishes-finished = record { statements_are = are; labels_are = refl }

    -- where each node is used nothing changes
    pub finished-all : ((n : ℕ) → n < length labels → IsUsed (statements before) n) → after ≡ before
    finished-all all = λ i. record { terms = terms_same i; quads = qs; labels = labels_same i }
      where
        passes : (n : ℕ) → n < length labels → is_mentioned (statements before) n ≡ true
        passes n l = let u = all n l in mentioned-In (statements before) n u.statement u.there u.mentioned

        number_same : (n : ℕ) → n < length labels → new_number (statements before) n ≡ n
        number_same n l = rank-all (is_mentioned (statements before)) n (λ k h. passes k (omega arith))

        blank_low : (n : ℕ) → In (Blank n) ts → n < length labels
        blank_low n i = let u = d.term_used n i in mentioned_low (length labels) n u.statement (valid_at u.statement u.there) u.mentioned

        term_stays : (t : Term) → In t ts → relabel_term (new_number (statements before)) t ≡ t
        term_stays (Iri t) i = refl
        term_stays (Blank n) i = ap Blank (number_same n (blank_low n i))
        term_stays (Literal l) i = refl

        terms_same : finished_terms ≡ ts
        terms_same = map-same (relabel_term (new_number (statements before))) ts term_stays

        labels_same : finished_labels ≡ labels
        labels_same = ap (map (label_at labels)) (filter-numbers_below_all (is_mentioned (statements before)) (length labels) passes) ∙ map-label_at labels
