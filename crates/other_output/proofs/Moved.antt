-- What a document states when its nodes are numbered along a list of all of them.
use Rattle.std.proofs.Common.{◌≡◌, ℕ, ◌<◌, List, Option, Some, None, IsSome, length, map, All, refl, sym, ap, subst, ◌∙◌, arith}
use Rattle.std.proofs.lemmas.List.{get_or_default}
use Rattle.rdf_terms.specs.declared.term.Term.{Term}
use Rattle.rdf_terms.specs.declared.term.Quad.{Quad}
use Rattle.rdf_terms.specs.declared.term.Label.{Label}
use Rattle.rdf_terms.specs.declared.term.Label.TheVariants.{Anonymous}
use Rattle.other_output.proofs.AnonymousNodes.{length-anonymous}
use Rattle.rdf_terms.proofs.Common.{In, AreDistinct, Dataset, Document, IsDocument, IsUsed, IsValidStatement, Permutes, Relabelling, Statement, dataset, statement, statements, numbers_below, place_of, relabel_statement, In-map, All-from_each, each-from_All, map-map, AreDistinct-numbers_below, In-numbers_below, from_In-numbers_below, get_or-numbers_below, length-numbers_below}
use Rattle.rdf_terms.proofs.Finishing.{mentions-relabelled, mentioned_low, IsValidStatement-relabelled}
use Rattle.canon_model.proofs.Equivariance.{AreDistinct-map, relabel_statement-back}
use Rattle.canonical_writer.specs.Determined.{CarriesLists, ListsNodes}
use Rattle.canonical_writer.proofs.Placing.{place-here, place-found}
use Rattle.canonical_writer.proofs.Partners.{partner, partners, map-partner, length-listed}
use Rattle.other_output.specs.Numbering.{HasPlaces, moved, place_in}

pub lists_nodes-numbers_below : (n : ℕ) → ListsNodes n (numbers_below n)
lists_nodes-numbers_below n = record { distinct = AreDistinct-numbers_below n; all = λ k. (from_In-numbers_below n k, In-numbers_below n k) }

module _ (nodes : ℕ) (c : List ℕ) (l : ListsNodes nodes c) where
  -- the place of a node in a list of all is its partner among the numbers
  place_in-partner : (n : ℕ) → place_in c n ≡ partner c (numbers_below nodes) n
  place_in-partner n = by (place_of c n) refl
    where
      by : (o : Option ℕ) → place_of c n ≡ o → place_in c n ≡ partner c (numbers_below nodes) n
      by None e = rw e refl
      by (Some k) e =
          let f = place-found c n k e in
          let h : k < nodes = subst (λ m. k < m) (length-listed nodes c l) f.0 in
          let h' : k < length (numbers_below nodes) = omega (arith, h, length-numbers_below nodes) in
          rw e (sym (get_or_default (numbers_below nodes) k n 0 h' ∙ get_or-numbers_below nodes k h))

  pub place_in-is : place_in c ≡ partner c (numbers_below nodes)
  place_in-is = λ i n. place_in-partner n i

module _ (d : Document) (c : List ℕ) (doc : IsDocument d) (l : ListsNodes (length d.labels) c) where
  abbrev nodes : ℕ
  nodes = length d.labels

  abbrev to : ℕ → ℕ
  to = partner c (numbers_below nodes)

  abbrev from : ℕ → ℕ
  from = partner (numbers_below nodes) c

  abbrev way : Relabelling nodes
  way = partners nodes c (numbers_below nodes) l (lists_nodes-numbers_below nodes)

  abbrev are : List Statement
  are = map (moved d.terms c) d.quads

  -- the moved quads are the statements, relabelled
  are_relabelled : are ≡ map (relabel_statement to) (statements d)
  are_relabelled = ap (λ (f : ℕ → ℕ). map (λ q. relabel_statement f (statement d.terms q)) d.quads) (place_in-is nodes c l) ∙ sym (map-map (relabel_statement to) (statement d.terms) d.quads)

  valid_at : (st : Statement) → In st (statements d) → IsValidStatement nodes st
  valid_at st i = each-from_All (IsValidStatement nodes) (statements d) st doc.draft.valid i

  pub valid_moved : All (λ q. IsValidStatement (length d.labels) (moved d.terms c q)) d.quads
  valid_moved = All-from_each _ d.quads (λ q i.
      let st = statement d.terms q in
      subst (λ (f : ℕ → ℕ). IsValidStatement nodes (relabel_statement f st)) (sym (place_in-is nodes c l))
      (IsValidStatement-relabelled nodes st (valid_at st (In-map (statement d.terms) d.quads q i)) to nodes (λ n h m. way.to_node n h)))

  pub distinct_moved : AreDistinct (map (moved d.terms c) d.quads)
  distinct_moved = subst AreDistinct (sym are_relabelled)
      (AreDistinct-map (relabel_statement to) (relabel_statement from) (relabel_statement-back from to way.from-to) (statements d) doc.draft.distinct)

  used_before : (n : ℕ) → n < nodes → IsUsed (map (relabel_statement to) (statements d)) n
  used_before n h =
      let u = doc.used (from n) (way.from_node n h) in
      subst (IsUsed (map (relabel_statement to) (statements d))) (way.to-from n) (record {
        statement = relabel_statement to u.statement;
        there = In-map (relabel_statement to) (statements d) u.statement u.there;
        mentioned = mentions-relabelled to (from n) u.statement u.mentioned;
      })

  pub used_moved : (n : ℕ) → n < length d.labels → IsUsed (map (moved d.terms c) d.quads) n
  used_moved n h = subst (λ sts. IsUsed sts n) (sym are_relabelled) (used_before n h)

  pub has_places : HasPlaces d.terms c
  has_places n i =
      let u = doc.draft.term_used n i in
      let low : n < nodes = mentioned_low nodes n u.statement (valid_at u.statement u.there) u.mentioned in
      let p = place-here c n ((l.all n).1 low) in
      subst IsSome (sym p.1) refl

  -- a dataset of the moved quads is carried by the lists
  pub carries_moved : (E : Dataset) → E.nodes ≡ length d.labels → Permutes (map (moved d.terms c) d.quads) E.statements → CarriesLists (dataset d) E c (numbers_below (length d.labels))
  carries_moved E count permutes = record {
    relabelling = way;
    lists = map-partner nodes c (numbers_below nodes) l (lists_nodes-numbers_below nodes);
    carries = record { nodes = count; statements = subst (λ sts. Permutes sts E.statements) are_relabelled permutes };
  }

  -- the same, of lists that are equal to these
  module _ (ts : List Term) (qs : List Quad) (ts_are : ts ≡ d.terms) (qs_are : qs ≡ d.quads) where
    pub places_of_these : HasPlaces ts c
    places_of_these = subst (λ us. HasPlaces us c) (sym ts_are) has_places

    pub distinct_of_these : AreDistinct (map (moved ts c) qs)
    distinct_of_these = subst (λ us. AreDistinct (map (moved us c) qs)) (sym ts_are) (subst (λ rs. AreDistinct (map (moved d.terms c) rs)) (sym qs_are) distinct_moved)

    pub valid_of_these : (labels : List Label) (count : ℕ) → count ≡ length d.labels → labels ≡ map Anonymous (numbers_below count)
        → All (λ q. IsValidStatement (length labels) (moved ts c q)) qs
    valid_of_these labels count e is =
        let n : length labels ≡ length d.labels = ap length is ∙ length-anonymous count ∙ e in
        subst (λ us. All (λ q. IsValidStatement (length labels) (moved us c q)) qs) (sym ts_are)
        (subst (λ rs. All (λ q. IsValidStatement (length labels) (moved d.terms c q)) rs) (sym qs_are)
        (subst (λ m. All (λ q. IsValidStatement m (moved d.terms c q)) d.quads) (sym n) valid_moved))

  -- a draft of the moved quads, what is read of it whole, and the dataset that is built of that
  pub carries_built : (draft parsed built : Document) → draft.labels ≡ map Anonymous (numbers_below (length d.labels)) → statements draft ≡ map (moved d.terms c) d.quads
      → (((n : ℕ) → n < length draft.labels → IsUsed (statements draft) n) → parsed ≡ draft) → built.labels ≡ parsed.labels → Permutes (statements parsed) (statements built)
      → CarriesLists (dataset d) (dataset built) c (numbers_below (length d.labels))
  carries_built draft parsed built labels sts whole same permutes =
      let count : length draft.labels ≡ length d.labels = ap length labels ∙ length-anonymous (length d.labels) in
      let is : parsed ≡ draft = whole (λ n h. subst (λ xs. IsUsed xs n) (sym sts) (used_moved n (subst (λ m. n < m) count h))) in
      carries_moved (dataset built) (ap length same ∙ ap (λ (p : Document). length p.labels) is ∙ count)
      (subst (λ xs. Permutes xs (statements built)) (ap statements is ∙ sts) permutes)
