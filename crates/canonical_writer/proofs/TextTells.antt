-- A dataset is known by its canonical text, up to the numbers of its nodes.
use Rattle.std.proofs.Common.{◌≡◌, ℕ, ◌<◌, ◌≤◌, Bool, true, false, ◌||◌, List, Option, Some, None, IfSome, All, map, length, get_or, refl, sym, ap, subst, ◌∙◌, arith, true≢false}
use Rattle.std.proofs.lemmas.Bool.{eqb-true}
use Rattle.rdf_terms.proofs.Common.{In, Permutes, permutes_trans, sorted, Statement, IsValidStatement, IsValidTerm, Dataset, IsValid, is_node, is_named_by, mentions, relabel_term, relabel_graph_name, relabel_statement, canonical_line, canonical_nquads, issued_names, identifier, identifier_at, name_or_nothing, place_of, In-map, from_In-map, identifier-injective, In-Permutes, Permutes-sym, Permutes-from_equal, sorted-permutes, each-from_All, All-from_each, In-get_or}
use Rattle.rdf_terms.specs.declared.term.Term.{Term}
use Rattle.rdf_terms.specs.declared.term.Term.TheVariants.{Iri, Blank, Literal}
use Rattle.rdf_terms.specs.declared.term.Prefix.TheVariants.{Canonical}
use Rattle.canonical_writer.specs.Determined.{AgreeTerms, AgreeGraphNames, Agree, ListsNodes, CarriesLists}
use Rattle.canonical_writer.proofs.Placing.{place-found, place-here, place-get_or}
use Rattle.canonical_writer.proofs.NameTexts.{HasPlainNames-issued}
use Rattle.canonical_writer.proofs.LineTexts.{IsLine, IsLine-canonical_line, same_line, same_lines}
use Rattle.canonical_writer.proofs.Matching.{Permutes-matched}
use Rattle.canonical_writer.proofs.Partners.{partner, partner-at, partners, map-partner, length-listed}

bounded : (m n : ℕ) → (n < m → n < n) → m ≤ n
bounded m n f = grind arith

-- ---- the lines of a text

module _ (D : Dataset) (c : List ℕ) (v : IsValid D) where
  valid : (st : Statement) → In st D.statements → IsValidStatement D.nodes st
  valid st h = each-from_All (IsValidStatement D.nodes) D.statements st v.valid h

  are_lines : All IsLine (sorted (map (canonical_line (issued_names Canonical c)) D.statements))
  are_lines =
      let lines = map (canonical_line (issued_names Canonical c)) D.statements in
      All-from_each IsLine (sorted lines)
      (λ x there.
      let p = from_In-map (canonical_line (issued_names Canonical c)) D.statements x (In-Permutes x (Permutes-sym (sorted-permutes lines)) there) in
      subst IsLine (sym p.2) (IsLine-canonical_line (issued_names Canonical c) D.nodes (HasPlainNames-issued Canonical c D.nodes) p.0 (valid p.0 p.1)))

module _ (D E : Dataset) (c d : List ℕ) (v : IsValid D) (w : IsValid E) (lc : ListsNodes D.nodes c) (ld : ListsNodes E.nodes d)
    (same : canonical_nquads D (issued_names Canonical c) ≡ canonical_nquads E (issued_names Canonical d)) where
  lines_permute : Permutes (map (canonical_line (issued_names Canonical c)) D.statements) (map (canonical_line (issued_names Canonical d)) E.statements)
  lines_permute =
      let e = same_lines _ _ (are_lines D c v) (are_lines E d w) same in
      permutes_trans (sorted-permutes _) (permutes_trans (Permutes-from_equal e) (Permutes-sym (sorted-permutes _)))

  agree : (st su : Statement) → In st D.statements → In su E.statements → canonical_line (issued_names Canonical c) st ≡ canonical_line (issued_names Canonical d) su
      → Agree (issued_names Canonical c) (issued_names Canonical d) st su
  agree st su i j e =
      same_line (issued_names Canonical c) (issued_names Canonical d) D.nodes E.nodes (HasPlainNames-issued Canonical c D.nodes) (HasPlainNames-issued Canonical d E.nodes)
      st su (valid D c v st i) (valid E d w su j) e

  -- nodes of one name stand at one place
  one_place_of : (m n : ℕ) → m < D.nodes → n < E.nodes → issued_names Canonical c m ≡ issued_names Canonical d n
      → (k : ℕ) × (place_of c m ≡ Some k) × (place_of d n ≡ Some k)
  one_place_of m n hm hn e =
      let p = place-here c m ((lc.all m).1 hm) in
      let q = place-here d n ((ld.all n).1 hn) in
      let s : identifier Canonical p.0 ≡ identifier Canonical q.0 =
      sym (ap (λ o. name_or_nothing (identifier_at Canonical o)) p.1) ∙ (e ∙ ap (λ o. name_or_nothing (identifier_at Canonical o)) q.1) in
      (p.0, p.1, q.1 ∙ ap Some (sym (identifier-injective Canonical p.0 q.0 s)))

  -- ---- there are as many nodes

  in_term : (n : ℕ) (t u : Term) → AgreeTerms (issued_names Canonical c) (issued_names Canonical d) t u → IsValidTerm E.nodes u → is_node n t ≡ true
      → (m : ℕ) × (m < E.nodes) × (issued_names Canonical c n ≡ issued_names Canonical d m)
  in_term n (Iri a) u g x h = absurd (true≢false (sym h))
  in_term n (Literal a) u g x h = absurd (true≢false (sym h))
  in_term n (Blank i) (Iri b) g x h = absurd g
  in_term n (Blank i) (Literal b) g x h = absurd g
  in_term n (Blank i) (Blank j) g x h = (j, x, ap (issued_names Canonical c) (sym (eqb-true i n h)) ∙ g)

  in_graph_name : (n : ℕ) (t u : Option Term) → AgreeGraphNames (issued_names Canonical c) (issued_names Canonical d) t u → IfSome u (IsValidTerm E.nodes) → is_named_by n t ≡ true
      → (m : ℕ) × (m < E.nodes) × (issued_names Canonical c n ≡ issued_names Canonical d m)
  in_graph_name n None u g x h = absurd (true≢false (sym h))
  in_graph_name n (Some t) None g x h = absurd g
  in_graph_name n (Some t) (Some u) g x h = in_term n t u g x h

  named_there : (n : ℕ) (st su : Statement) → Agree (issued_names Canonical c) (issued_names Canonical d) st su → IsValidStatement E.nodes su → mentions n st ≡ true
      → (m : ℕ) × (m < E.nodes) × (issued_names Canonical c n ≡ issued_names Canonical d m)
  named_there n st su g x h = by (is_node n st.subject) refl (is_node n st.object) refl h
    where
      by : (a : Bool) → is_node n st.subject ≡ a → (b : Bool) → is_node n st.object ≡ b → (a || (b || is_named_by n st.graph_name)) ≡ true
          → (m : ℕ) × (m < E.nodes) × (issued_names Canonical c n ≡ issued_names Canonical d m)
      by true i b j h = in_term n st.subject su.subject g.subject x.subject i
      by false i true j h = in_term n st.object su.object g.object x.object j
      by false i false j h = in_graph_name n st.graph_name su.graph_name g.graph_name x.graph_name h

  place_there : (k : ℕ) → k < length c → k < length d
  place_there k h =
      let n = get_or c k 0 in
      let small : get_or c k 0 < D.nodes = (lc.all n).0 (In-get_or c k 0 h) in
      let used = v.used n small in
      let p = from_In-map (canonical_line (issued_names Canonical d)) E.statements _
      (In-Permutes _ lines_permute (In-map (canonical_line (issued_names Canonical c)) D.statements used.statement used.there)) in
      let m = named_there n used.statement p.0 (agree used.statement p.0 used.there p.1 p.2) (valid E d w p.0 p.1) used.mentioned in
      let q = one_place_of n m.0 small m.1 m.2 in
      let r : Some q.0 ≡ Some k = sym q.1 ∙ place-get_or c k lc.distinct h in
      let s : q.0 ≡ k = cc in
      subst (λ j. j < length d) s (place-found d m.0 q.0 q.2).0

  pub nodes-le : D.nodes ≤ E.nodes
  nodes-le =
      let a = length-listed D.nodes c lc in
      let b = length-listed E.nodes d ld in
      let no_longer : length c ≤ length d = bounded (length c) (length d) (place_there (length d)) in
      omega (arith, a, b, no_longer)

  -- ---- the statements

  module _ (as_many : E.nodes ≡ D.nodes) (ld' : ListsNodes D.nodes d) where
    to_partner : (m n : ℕ) → m < D.nodes → n < E.nodes → issued_names Canonical c m ≡ issued_names Canonical d n → partner c d m ≡ n
    to_partner m n hm hn e =
        let p = one_place_of m n hm hn e in
        partner-at D.nodes c d lc ld' m p.0 p.1 (place-found c m p.0 p.1).0 ∙ (place-found d n p.0 p.2).1

    same_term_moved : (t u : Term) → AgreeTerms (issued_names Canonical c) (issued_names Canonical d) t u → IsValidTerm D.nodes t → IsValidTerm E.nodes u → relabel_term (partner c d) t ≡ u
    same_term_moved (Iri a) (Iri b) g x y = ap Iri g
    same_term_moved (Iri a) (Blank b) g x y = absurd g
    same_term_moved (Iri a) (Literal b) g x y = absurd g
    same_term_moved (Blank a) (Iri b) g x y = absurd g
    same_term_moved (Blank a) (Blank b) g x y = ap Blank (to_partner a b x y g)
    same_term_moved (Blank a) (Literal b) g x y = absurd g
    same_term_moved (Literal a) (Iri b) g x y = absurd g
    same_term_moved (Literal a) (Blank b) g x y = absurd g
    same_term_moved (Literal a) (Literal b) g x y = ap Literal g

    same_graph_name_moved : (t u : Option Term) → AgreeGraphNames (issued_names Canonical c) (issued_names Canonical d) t u → IfSome t (IsValidTerm D.nodes) → IfSome u (IsValidTerm E.nodes)
        → relabel_graph_name (partner c d) t ≡ u
    same_graph_name_moved None None g x y = refl
    same_graph_name_moved None (Some u) g x y = absurd g
    same_graph_name_moved (Some t) None g x y = absurd g
    same_graph_name_moved (Some t) (Some u) g x y = ap Some (same_term_moved t u g x y)

    same_moved : (st su : Statement) → In st D.statements → In su E.statements → canonical_line (issued_names Canonical c) st ≡ canonical_line (issued_names Canonical d) su
        → relabel_statement (partner c d) st ≡ su
    same_moved st su i j e =
        let g = agree st su i j e in
        let x = valid D c v st i in
        let y = valid E d w su j in
        λ k. record {
          subject = same_term_moved st.subject su.subject g.subject x.subject y.subject k;
          predicate = same_term_moved st.predicate su.predicate g.predicate x.predicate y.predicate k;
          object = same_term_moved st.object su.object g.object x.object y.object k;
          graph_name = same_graph_name_moved st.graph_name su.graph_name g.graph_name x.graph_name y.graph_name k;
        }

    pub carried : CarriesLists D E c d
    carried = record {
      relabelling = partners D.nodes c d lc ld';
      lists = map-partner D.nodes c d lc ld';
      carries = record {
        nodes = as_many;
        statements =
            Permutes-matched (canonical_line (issued_names Canonical c)) (canonical_line (issued_names Canonical d))
            (relabel_statement (partner c d)) D.statements E.statements same_moved lines_permute;
      };
    }

pub dataset_of_text : (D E : Dataset) (c d : List ℕ) → IsValid D → IsValid E → ListsNodes D.nodes c → ListsNodes E.nodes d
    → canonical_nquads D (issued_names Canonical c) ≡ canonical_nquads E (issued_names Canonical d) → CarriesLists D E c d
dataset_of_text D E c d v w lc ld same =
    let le : D.nodes ≤ E.nodes = nodes-le D E c d v w lc ld same in
    let ge : E.nodes ≤ D.nodes = nodes-le E D d c w v ld lc (sym same) in
    let as_many : E.nodes ≡ D.nodes = omega arith in
    carried D E c d v w lc ld same as_many (subst (λ n. ListsNodes n d) as_many ld)
