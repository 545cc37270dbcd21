-- A document whose quads were put in another order, and what is told of its nodes.
use Rattle.std.proofs.Common.{◌≡◌, ℕ, ◌<◌, ◌⊎◌, ◌↔◌, IsTrue, Bool, true, ◌||◌, List, [], ◌∷◌, Option, Some, None, IfSome, Result, IfOk, All, map, length, get_or, slice_get, inl, inr, refl, sym, ap, ◌∙◌, subst, true≢false, eqb-true, arith}
use Rattle.std.specs.List.Sorted.{IsPermutation}
use Rattle.std.proofs.lemmas.List.{length-map}
use Rattle.std.proofs.lemmas.List.Sorted.{All-permutation, IsPermutation-map, length_permutation}
use Rattle.std.proofs.lemmas.Option.{slice_get-get_or}
use Rattle.std.proofs.lemmas.Result.{IfOk-weaker}
use Rattle.rdf_terms.proofs.Common.{In, AreDistinct, Permutes, numbers_below, Statement, IsValidStatement, IsUsed, mentions, is_node, is_named_by, Document, IsDocument, IsInRange, statement, statements, term_at, graph_name_at, In-at, In-map, from_In-map, Permutes-from_IsPermutation, Permutes-map, AreDistinct-Permutes, In-Permutes, from_In-filter, each-from_All, length-numbers_below, map-numbers_below}
use Rattle.rdf_terms.specs.Lexicon.{Lexicon}
use Rattle.rdf_terms.specs.declared.term.Term.{Term}
use Rattle.rdf_terms.specs.declared.term.Term.TheVariants.{Iri, Blank, Literal}
use Rattle.rdf_terms.specs.declared.term.Quad.{Quad}
use Rattle.rdf_terms.specs.declared.term.Label.{Label}
use Rattle.rdf_terms.proofs.Adding.{statement_injective}
use Rattle.dataset_index.specs.declared.mention.Mention.{Mention}
use Rattle.dataset_index.specs.ByKey.{of_key}
use Rattle.dataset_index.specs.Mentions.{mentioned_by, mention_places, places_of, AreMentions, places_before}
use Rattle.dataset_index.specs.NodeTerms.{NumbersNodes}
use Rattle.dataset_index.specs.HeldNodes.{AreNodesBelow}
use Rattle.dataset_index.specs.Indexed.{IsIndexed, with_quads}
use Rattle.dataset_index.specs.QuadOrder.{Ascend}
use Rattle.dataset_index.proofs.Keys.{In-of_key}
use Rattle.dataset_index.proofs.Numbers.{slice_get-map_numbers_below}
use Rattle.std.proofs.lemmas.Bool.{or_cases}
use Rattle.rdf_terms.proofs.Finishing.{mentioned_low}

pub AreDistinct-from_map : {A B : Type 0} (f : A → B) (xs : List A) → AreDistinct (map f xs) → AreDistinct xs
AreDistinct-from_map f [] h = tt
AreDistinct-from_map f (x ∷ xs) h = (λ i. h.0 (In-map f xs x i), AreDistinct-from_map f xs h.1)

-- ---- another order

used_stays : (sts more : List Statement) (n : ℕ) → Permutes sts more → IsUsed sts n → IsUsed more n
used_stays sts more n p u = record { statement = u.statement; there = In-Permutes u.statement p u.there; mentioned = u.mentioned }

module _ (terms : List Term) (quads sorted : List Quad) (labels : List Label) (p : IsPermutation quads sorted) where
  abbrev given : Document
  given = record { terms = terms; quads = quads; labels = labels }

  abbrev ordered : Document
  ordered = record { terms = terms; quads = sorted; labels = labels }

  statements_permute : Permutes (map (statement terms) quads) (map (statement terms) sorted)
  statements_permute = Permutes-map (statement terms) (Permutes-from_IsPermutation quads sorted p)

  IsDocument-ordered : IsDocument given → IsDocument ordered
  IsDocument-ordered d =
      let l = length_permutation quads sorted p in
      record {
        draft = record {
          in_range = All-permutation (IsInRange terms) quads sorted p d.draft.in_range;
          valid = All-permutation (IsValidStatement (length labels)) (map (statement terms) quads) (map (statement terms) sorted) (IsPermutation-map (statement terms) quads sorted p) d.draft.valid;
          distinct = AreDistinct-Permutes statements_permute d.draft.distinct;
          distinct_labels = d.draft.distinct_labels;
          term_used = λ n h. used_stays (map (statement terms) quads) (map (statement terms) sorted) n statements_permute (d.draft.term_used n h);
          terms_bound = let b = d.draft.terms_bound in omega arith;
          quads_bound = let b = d.draft.quads_bound in omega arith;
          labels_bound = d.draft.labels_bound;
        };
        used = λ n h. used_stays (map (statement terms) quads) (map (statement terms) sorted) n statements_permute (d.used n h);
      }

-- what stands of a document whose quads were put in another order stands of the result, where there is one
module _ (d : Document) (quads sorted : List Quad) (given : quads ≡ d.quads) (p : IsPermutation quads sorted) where
  moved : IsPermutation d.quads sorted
  moved = subst (λ qs. IsPermutation qs sorted) given p

  module _ (l : Lexicon) (same : l ≡ record { terms = d.terms; labels = d.labels }) where
    pub IsDocument-with_quads : IsDocument d → IsDocument (with_quads l sorted)
    IsDocument-with_quads is = subst (λ x. IsDocument (with_quads x sorted)) (sym same) (IsDocument-ordered d.terms d.quads sorted d.labels moved is)

    pub quads_permuted : {E : Type 0} (r : Result Document E) → IfOk r (λ x. x ≡ with_quads l sorted) → IfOk r (λ x. Permutes d.quads x.quads)
    quads_permuted r = IfOk-weaker r _ _ (λ x e. subst (λ w. Permutes d.quads w.quads) (sym e) (Permutes-from_IsPermutation d.quads sorted moved))

    pub statements_permuted : {E : Type 0} (r : Result Document E) → IfOk r (λ x. x ≡ with_quads l sorted) → IfOk r (λ x. Permutes (statements d) (statements x))
    statements_permuted r =
        IfOk-weaker r _ _
        (λ x e.
        subst (λ w. Permutes (statements d) (statements w)) (sym (e ∙ ap (λ v. with_quads v sorted) same)) (statements_permute d.terms d.quads sorted d.labels moved))

-- ---- nodes and their terms

is_blank : (n : ℕ) (t : Term) → is_node n t ≡ true → t ≡ Blank n
is_blank n (Iri t) h = absurd (true≢false (sym h))
is_blank n (Blank m) h = ap Blank (eqb-true m n h)
is_blank n (Literal l) h = absurd (true≢false (sym h))

-- a node of the table is below the number of nodes
In_below : (d : Document) → IsDocument d → (n : ℕ) → In (Blank n) d.terms → n < length d.labels
In_below d is n there =
    let u = is.draft.term_used n there in
    mentioned_low (length d.labels) n u.statement (each-from_All (IsValidStatement (length d.labels)) (statements d) u.statement is.draft.valid u.there) u.mentioned

pub node_below : (d : Document) → IsDocument d → (n k : ℕ) → slice_get d.terms k ≡ Some (Blank n) → n < length d.labels
node_below d is n k at = In_below d is n (In-at d.terms k (Blank n) at)

pub AreNodesBelow-terms : (d : Document) → IsDocument d → AreNodesBelow d.terms
AreNodesBelow-terms d is n there = let l = In_below d is n there in let b = is.draft.labels_bound in omega arith

-- only nodes of the document are mentioned
mentioned_at : (d : Document) → IsDocument d → (n k : ℕ) (o : Option Statement) → slice_get (statements d) k ≡ o → mentioned_by n o ≡ true → n < length d.labels
mentioned_at d is n k None at h = absurd (true≢false (sym h))
mentioned_at d is n k (Some st) at h =
    mentioned_low (length d.labels) n st (each-from_All (IsValidStatement (length d.labels)) (statements d) st is.draft.valid (In-at (statements d) k st at)) h

pub mentioned_below : (d : Document) (mentions : List Mention) (end : ℕ) → IsDocument d → AreMentions (statements d) mentions end → All (λ m. m.node < length d.labels) mentions
mentioned_below d mentions end is told i e l =
    let m = get_or mentions i e in
    let own = In-of_key (λ m. m.node) m mentions (In-at mentions i m (slice_get-get_or mentions i e l)) in
    let there = subst (In m.place) (told m.node) (In-map (λ m. m.place) (of_key (λ m. m.node) m.node mentions) m own) in
    mentioned_at d is m.node m.place (slice_get (statements d) m.place) refl (from_In-filter (λ k. mentioned_by m.node (slice_get (statements d) k)) m.place (numbers_below end) there).1

-- the number of the term of a node that a quad mentions
abbrev Numbered : List Term → ℕ → Type 0
Numbered terms n = (k : ℕ) × (k < length terms) × (slice_get terms k ≡ Some (Blank n))

numbered : (terms : List Term) (n k : ℕ) → k < length terms → is_node n (term_at terms k) ≡ true → Numbered terms n
numbered terms n k l h = (k, l, slice_get-get_or terms k (Blank 0) l ∙ ap Some (is_blank n (term_at terms k) h))

mentioned_numbered : (terms : List Term) (n : ℕ) (q : Quad) → IsInRange terms q → mentions n (statement terms q) ≡ true → Numbered terms n
mentioned_numbered terms n q r h = by (or_cases (is_node n (term_at terms q.s)) (is_node n (term_at terms q.o) || is_named_by n (graph_name_at terms q.g)) h)
  where
    named : (g : Option ℕ) → IfSome g (λ g. g < length terms) → is_named_by n (graph_name_at terms g) ≡ true → Numbered terms n
    named None r h = absurd (true≢false (sym h))
    named (Some k) r h = numbered terms n k r h

    more : (is_node n (term_at terms q.o) ≡ true) ⊎ (is_named_by n (graph_name_at terms q.g) ≡ true) → Numbered terms n
    more (inl h) = numbered terms n q.o r.o h
    more (inr h) = named q.g r.g h

    by : (is_node n (term_at terms q.s) ≡ true) ⊎ ((is_node n (term_at terms q.o) || is_named_by n (graph_name_at terms q.g)) ≡ true) → Numbered terms n
    by (inl h) = numbered terms n q.s r.s h
    by (inr h) = more (or_cases (is_node n (term_at terms q.o)) (is_named_by n (graph_name_at terms q.g)) h)

node_numbered : (d : Document) → IsDocument d → (n : ℕ) → n < length d.labels → Numbered d.terms n
node_numbered d is n l =
    let u = is.used n l in
    let q = from_In-map (statement d.terms) d.quads u.statement u.there in
    mentioned_numbered d.terms n q.0 (each-from_All (IsInRange d.terms) d.quads q.0 is.draft.in_range q.1) (ap (mentions n) (sym q.2) ∙ u.mentioned)

-- ---- the whole

pub indexed : (d : Document) (numbers : List ℕ) (mentions : List Mention) (index : List (List ℕ)) → AreDistinct d.terms → IsDocument d → Ascend d.quads
    → length numbers ≡ length d.labels → NumbersNodes d.terms numbers (length d.terms)
    → AreMentions (statements d) mentions (length d.quads) → index ≡ map (mention_places mentions) (numbers_below (length d.labels))
    → IsIndexed d numbers index
indexed d numbers mentions index distinct is up count at told made = record {
  document = is;
  distinct_terms = distinct;
  ascend = up;
  numbers_count = count;
  numbers_are = λ n l. number n (node_numbered d is n l);
  index_is =
      made ∙ map-numbers_below (mention_places mentions) (places_of (statements d)) (length d.labels)
      (λ n l. told n ∙ ap (λ k. places_before (statements d) k n) (sym (length-map d.quads (statement d.terms))));
}
  where
    number : (n : ℕ) → Numbered d.terms n → slice_get d.terms (get_or numbers n 0) ≡ Some (Blank n)
    number n k = at n k.0 k.1 k.2

-- a document of no nodes has no lists of places
pub indexed_without_nodes : (d : Document) (numbers : List ℕ) (index : List (List ℕ)) → d.labels ≡ [] → AreDistinct d.terms → IsDocument d → Ascend d.quads
    → numbers ≡ [] → index ≡ [] → IsIndexed d numbers index
indexed_without_nodes d numbers index none distinct is up no_numbers no_lists = record {
  document = is;
  distinct_terms = distinct;
  ascend = up;
  numbers_count = ap length no_numbers ∙ sym (ap length none);
  numbers_are = λ n l. absurd (let e = ap length none in omega arith);
  index_is = no_lists ∙ sym (ap (λ ls. map (places_of (statements d)) (numbers_below (length ls))) none);
}

pub index_count : (d : Document) (numbers : List ℕ) (index : List (List ℕ)) → IsIndexed d numbers index → length index ≡ length d.labels
index_count d numbers index i = ap length i.index_is ∙ length-map (numbers_below (length d.labels)) (places_of (statements d)) ∙ length-numbers_below (length d.labels)

pub index_at : (d : Document) (numbers : List ℕ) (index : List (List ℕ)) → IsIndexed d numbers index → (n : ℕ) (places : List ℕ) → n < length d.labels → slice_get index n ≡ Some places
    → places ≡ places_of (statements d) n
index_at d numbers index i n places l h = same (sym h ∙ ap (λ x. slice_get x n) i.index_is ∙ slice_get-map_numbers_below (places_of (statements d)) (length d.labels) n l)
  where
    same : Some places ≡ Some (places_of (statements d) n) → places ≡ places_of (statements d) n
    same e = cc

-- ---- whether a statement is there

pub In-statement : (d : Document) (q : Quad) → AreDistinct d.terms → IsDocument d → IsInRange d.terms q → In (statement d.terms q) (statements d) → In q d.quads
In-statement d q distinct is r h =
    let f = from_In-map (statement d.terms) d.quads (statement d.terms q) h in
    subst (λ x. In x d.quads) (sym (statement_injective d.terms distinct q f.0 r (each-from_All (IsInRange d.terms) d.quads f.0 is.draft.in_range f.1) f.2)) f.1

pub has_statement : (d : Document) (q : Quad) (b : Bool) → AreDistinct d.terms → IsDocument d → IsTrue b ↔ In q d.quads → IsInRange d.terms q → IsTrue b ↔ In (statement d.terms q) (statements d)
has_statement d q b distinct is has r = (λ t. In-map (statement d.terms) d.quads q (has.0 t), λ h. has.1 (In-statement d q distinct is r h))
