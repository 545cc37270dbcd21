-- The steps by which unused nodes are left out make the document without them.
use Rattle.std.proofs.Common.{◌≡◌, ◌↔◌, IfSome, None, ℕ, ◌<◌, Bool, true, false, List, Option, Some, length, map, filter, refl, sym, ap, subst, ◌∙◌, true≢false, arith, EachIndex}
use Rattle.std.proofs.lemmas.Bool.{eqb-true}
use Rattle.std.proofs.lemmas.List.{length-map, get_or-map}
use Rattle.std.proofs.lemmas.Option.{slice_get-get_or}
use Rattle.rdf_terms.specs.Lists.{In, AreDistinct, numbers_below}
use Rattle.rdf_terms.specs.Terms.{IsValidStatement}
use Rattle.rdf_terms.specs.Dataset.{IsUsed, mentions, is_node, is_named_by}
use Rattle.rdf_terms.specs.Isomorphism.{relabel_term}
use Rattle.rdf_terms.specs.Document.{Document, statement, statements, term_at, graph_name_at, IsInRange, IsDraft, IsDocument, is_mentioned, new_number, label_at, number_in, mark_in, marked_of, Finishes}
use Rattle.rdf_terms.specs.declared.term.Term.{Term}
use Rattle.rdf_terms.specs.declared.term.Term.TheVariants.{Iri, Blank, Literal}
use Rattle.rdf_terms.specs.declared.term.Quad.{Quad}
use Rattle.rdf_terms.specs.declared.term.Label.{Label}
use Rattle.rdf_terms.proofs.Membership.{from_In-map, In-at}
use Rattle.rdf_terms.proofs.Ranks.{rank-injective, filter-numbers_below_agree, get_or-numbers_below, length-numbers_below}
use Rattle.rdf_terms.proofs.Keeping.{marked_of-numbers}
use Rattle.rdf_terms.proofs.Finishing.{IsUsed-mentioned, mentioned-In, mentioned_low, one_of, finished_terms, finished_labels, IsDocument-finished, Finishes-finished, finished-all}
use Rattle.rdf_terms.proofs.MadeLists.{each-from_All, map-agree, AreDistinct-map}

-- ---- a node that a quad's statement mentions stands in the table

module _ (ts : List Term) (n : ℕ) where
  at_place : (k : ℕ) → k < length ts → In (term_at ts k) ts
  at_place k l = In-at ts k (term_at ts k) (slice_get-get_or ts k (Blank 0) l)

  node_there : (t : Term) → In t ts → is_node n t ≡ true → In (Blank n) ts
  node_there (Iri t) i h = absurd (true≢false (sym h))
  node_there (Blank m) i h = let e : m ≡ n = eqb-true m n h in subst (λ x. In (Blank x) ts) e i
  node_there (Literal l) i h = absurd (true≢false (sym h))

  graph_there : (g : Option ℕ) → IfSome g (λ k. k < length ts) → is_named_by n (graph_name_at ts g) ≡ true → In (Blank n) ts
  graph_there None l h = absurd (true≢false (sym h))
  graph_there (Some k) l h = node_there (term_at ts k) (at_place k l) h

  pub mentioned_there : (q : Quad) → IsInRange ts q → mentions n (statement ts q) ≡ true → In (Blank n) ts
  mentioned_there q r h = one_of _ _ _ (node_there (term_at ts q.s) (at_place q.s r.s)) (node_there (term_at ts q.o) (at_place q.o r.o)) (graph_there q.g r.g) h

-- ---- the steps, over the marks of the nodes of the table

module _ (ts : List Term) (qs : List Quad) (labels : List Label) (d : IsDraft (record { terms = ts; quads = qs; labels = labels })) where
  abbrev before : Document
  before = record { terms = ts; quads = qs; labels = labels }

  pub blank_low : (n : ℕ) → In (Blank n) ts → n < length labels
  blank_low n i = let u = d.term_used n i in mentioned_low (length labels) n u.statement (each-from_All (IsValidStatement (length labels)) (statements before) u.statement d.valid u.there) u.mentioned

  blank_mentioned : (n : ℕ) → In (Blank n) ts → is_mentioned (statements before) n ≡ true
  blank_mentioned n i = let u = d.term_used n i in mentioned-In (statements before) n u.statement u.there u.mentioned

  mentioned_blank : (n : ℕ) → is_mentioned (statements before) n ≡ true → In (Blank n) ts
  mentioned_blank n h =
      let u = IsUsed-mentioned (statements before) n h in
      let p = from_In-map (statement ts) qs u.statement u.there in
      mentioned_there ts n p.0 (each-from_All (IsInRange ts) qs p.0 d.in_range p.1) (subst (λ s. mentions n s ≡ true) p.2 u.mentioned)

  pub distinct_terms : AreDistinct ts → AreDistinct (finished_terms ts qs labels)
  distinct_terms distinct = AreDistinct-map (relabel_term (new_number (statements before))) ts apart distinct
    where
      apart : (a b : Term) → In a ts → In b ts → relabel_term (new_number (statements before)) a ≡ relabel_term (new_number (statements before)) b → a ≡ b
      apart (Iri a) (Iri b) i j e = e
      apart (Iri a) (Blank b) i j e = cc
      apart (Iri a) (Literal b) i j e = e
      apart (Blank a) (Iri b) i j e = cc
      apart (Blank a) (Blank b) i j e =
          let same : new_number (statements before) a ≡ new_number (statements before) b = cc in
          ap Blank (rank-injective (is_mentioned (statements before)) a b (blank_mentioned a i) (blank_mentioned b j) same)
      apart (Blank a) (Literal b) i j e = cc
      apart (Literal a) (Iri b) i j e = e
      apart (Literal a) (Blank b) i j e = cc
      apart (Literal a) (Literal b) i j e = e

  module _ (marks : List Bool) (len : length marks ≡ length labels) (told : (n : ℕ) → (mark_in marks n ≡ true) ↔ In (Blank n) ts) where
    agree : (n : ℕ) → mark_in marks n ≡ is_mentioned (statements before) n
    agree n = by (mark_in marks n) (is_mentioned (statements before) n) refl refl
      where
        by : (b c : Bool) → mark_in marks n ≡ b → is_mentioned (statements before) n ≡ c → b ≡ c
        by true true p q = refl
        by true false p q = absurd (true≢false (sym (blank_mentioned n ((told n).0 p)) ∙ q))
        by false true p q = absurd (true≢false (sym ((told n).1 (mentioned_blank n q)) ∙ p))
        by false false p q = refl

    pub labels_are : (kept : List Label) → kept ≡ marked_of marks labels → kept ≡ finished_labels ts qs labels
    labels_are kept e =
        e ∙ marked_of-numbers marks labels len
        ∙ ap (λ k. map (label_at labels) (filter (mark_in marks) (numbers_below k))) len
        ∙ ap (map (label_at labels)) (filter-numbers_below_agree (mark_in marks) (is_mentioned (statements before)) (length labels) (λ k l. agree k))

    -- all are marked: each node is used
    pub all_used : EachIndex marks (λ n. mark_in marks n ≡ true) → (n : ℕ) → n < length labels → IsUsed (statements before) n
    all_used all n l = d.term_used n ((told n).0 (all n (omega (arith, len, l))))

    module _ (numbers : List ℕ) (are : numbers ≡ map (λ n. length (filter (mark_in marks) (numbers_below n))) (numbers_below (length marks))) where
      numbers_len : length numbers ≡ length labels
      numbers_len = ap length are ∙ length-map (numbers_below (length marks)) (λ n. length (filter (mark_in marks) (numbers_below n))) ∙ length-numbers_below (length marks) ∙ len

      pub known : (n : ℕ) → In (Blank n) ts → n < length numbers
      known n i = let l = blank_low n i in omega (arith, l, numbers_len)

      number_is : (n : ℕ) → n < length labels → number_in numbers n ≡ new_number (statements before) n
      number_is n l =
          let k : n < length (numbers_below (length marks)) = omega (arith, length-numbers_below (length marks), len, l) in
          let m : n < length marks = omega (arith, len, l) in
          ap (λ ns. number_in ns n) are
          ∙ get_or-map (λ n. length (filter (mark_in marks) (numbers_below n))) (numbers_below (length marks)) n 0 0 k
          ∙ ap (λ j. length (filter (mark_in marks) (numbers_below j))) (get_or-numbers_below (length marks) n m)
          ∙ ap length (filter-numbers_below_agree (mark_in marks) (is_mentioned (statements before)) n (λ j h. agree j))

      pub terms_are : map (relabel_term (number_in numbers)) ts ≡ finished_terms ts qs labels
      terms_are = map-agree (relabel_term (number_in numbers)) (relabel_term (new_number (statements before))) ts same
        where
          same : (t : Term) → In t ts → relabel_term (number_in numbers) t ≡ relabel_term (new_number (statements before)) t
          same (Iri t) i = refl
          same (Blank n) i = ap Blank (number_is n (blank_low n i))
          same (Literal l) i = refl

  -- ---- the document that is made of the renumbered terms and the kept labels

  module _ (terms' : List Term) (labels' : List Label) (terms_made : terms' ≡ finished_terms ts qs labels) (labels_made : labels' ≡ finished_labels ts qs labels) where
    abbrev made : Document
    made = record { terms = terms'; quads = qs; labels = labels' }

    is_finished : (record { terms = finished_terms ts qs labels; quads = qs; labels = finished_labels ts qs labels }) ≡ made
    is_finished = λ i. record { terms = sym terms_made i; quads = qs; labels = sym labels_made i }

    pub IsDocument-made : IsDocument made
    IsDocument-made = subst IsDocument is_finished (IsDocument-finished ts qs labels d)

    pub Finishes-made : Finishes before made
    Finishes-made = subst (Finishes before) is_finished (Finishes-finished ts qs labels d)

    pub made-all : ((n : ℕ) → n < length labels → IsUsed (statements before) n) → made ≡ before
    made-all all = sym is_finished ∙ finished-all ts qs labels d all

  -- where each node is used, the document as it stands is what is to be made
  pub Finishes-all : ((n : ℕ) → n < length labels → IsUsed (statements before) n) → Finishes before before
  Finishes-all all = subst (Finishes before) (finished-all ts qs labels d all) (Finishes-finished ts qs labels d)
