-- The canonical text of a dataset: its lines, and that quads are known by them.
use Rattle.std.proofs.Common.{List, None, Option, Some, IfSome, ap, map, refl, subst, sym, ℕ, ◌<◌, ◌∙◌, ◌≡◌, get_or}
use Rattle.rdf_terms.proofs.Common.{All-from_each, AreDistinct, AreDistinct-map, Dataset, In, In-Permutes, In-map, IsValid, IsValidStatement, IsValidTerm, Permutes-sym, Statement, Text, canonical_line, canonical_nquads, each-from_All, from_In-map, identifier, identifier-injective, identifier_at, issued_names, name_or_nothing, sorted, sorted-permutes}
use Rattle.rdf_terms.specs.declared.term.Term.{Term}
use Rattle.rdf_terms.specs.declared.term.Term.TheVariants.{Blank, Iri, Literal}
use Rattle.rdf_terms.specs.declared.term.Prefix.TheVariants.{Canonical}
use Rattle.canonical_writer.specs.Determined.{AgreeGraphNames, AgreeTerms}
use Rattle.canonical_writer.proofs.LineTexts.{IsLine-canonical_line, same_line}
use Rattle.canonical_writer.proofs.NameTexts.{HasPlainNames-issued}
use Rattle.canonical_writer.proofs.Placing.{place-found, place-here}
use Rattle.ground_parts.specs.Lines.{AreLinesOf, HasLine, IsLine}
use Rattle.ground_parts.proofs.Merging.{In-lines, line_from_written}

-- ---- lines

module _ (c : List ℕ) where
  abbrev pub line_of : Statement → Text
  line_of st = canonical_line (issued_names Canonical c) st

  module _ (D : Dataset) (v : IsValid D) where
    pub canonical_lines : AreLinesOf (canonical_nquads D (issued_names Canonical c)) (sorted (map line_of D.statements))
    canonical_lines = record { are_lines = All-from_each IsLine (sorted (map line_of D.statements)) each; spelled = refl }
      where
        each : (line : Text) → In line (sorted (map line_of D.statements)) → IsLine line
        each line h =
            let p = from_In-map line_of D.statements line (In-Permutes line (Permutes-sym (sorted-permutes (map line_of D.statements))) h) in
            subst IsLine (sym p.2) (line_from_written (line_of p.0) (IsLine-canonical_line (issued_names Canonical c) D.nodes (HasPlainNames-issued Canonical c D.nodes) p.0
            (each-from_All (IsValidStatement D.nodes) D.statements p.0 v.valid p.1)))

    pub has_line_of : (st : Statement) → In st D.statements → HasLine (canonical_nquads D (issued_names Canonical c)) (line_of st)
    has_line_of st h = record {
      lines = sorted (map line_of D.statements);
      are_lines = canonical_lines;
      there = In-Permutes (line_of st) (sorted-permutes (map line_of D.statements)) (In-map line_of D.statements st h);
    }

    pub from_has_line : (line : Text) → HasLine (canonical_nquads D (issued_names Canonical c)) line → (st : Statement) × In st D.statements × (line ≡ line_of st)
    from_has_line line h =
        from_In-map line_of D.statements line (In-Permutes line (Permutes-sym (sorted-permutes (map line_of D.statements)))
        (In-lines (canonical_nquads D (issued_names Canonical c)) line (sorted (map line_of D.statements)) canonical_lines h))

-- ---- quads are known by their lines, where each node has a name

module _ (c : List ℕ) (D : Dataset) (v : IsValid D) (all : (x : ℕ) → x < D.nodes → In x c) where
  one_node : (m n : ℕ) → m < D.nodes → n < D.nodes → issued_names Canonical c m ≡ issued_names Canonical c n → m ≡ n
  one_node m n hm hn e =
      let p = place-here c m (all m hm) in
      let q = place-here c n (all n hn) in
      let s : identifier Canonical p.0 ≡ identifier Canonical q.0 =
      sym (ap (λ o. name_or_nothing (identifier_at Canonical o)) p.1) ∙ (e ∙ ap (λ o. name_or_nothing (identifier_at Canonical o)) q.1) in
      sym (place-found c m p.0 p.1).1 ∙ (ap (λ k. get_or c k 0) (identifier-injective Canonical p.0 q.0 s) ∙ (place-found c n q.0 q.1).1)

  one_term : (t u : Term) → AgreeTerms (issued_names Canonical c) (issued_names Canonical c) t u → IsValidTerm D.nodes t → IsValidTerm D.nodes u → t ≡ u
  one_term (Iri a) (Iri b) g x y = ap Iri g
  one_term (Iri a) (Blank b) g x y = absurd g
  one_term (Iri a) (Literal b) g x y = absurd g
  one_term (Blank a) (Iri b) g x y = absurd g
  one_term (Blank a) (Blank b) g x y = ap Blank (one_node a b x y g)
  one_term (Blank a) (Literal b) g x y = absurd g
  one_term (Literal a) (Iri b) g x y = absurd g
  one_term (Literal a) (Blank b) g x y = absurd g
  one_term (Literal a) (Literal b) g x y = ap Literal g

  one_graph_name : (t u : Option Term) → AgreeGraphNames (issued_names Canonical c) (issued_names Canonical c) t u → IfSome t (IsValidTerm D.nodes) → IfSome u (IsValidTerm D.nodes) → t ≡ u
  one_graph_name None None g x y = refl
  one_graph_name None (Some u) g x y = absurd g
  one_graph_name (Some t) None g x y = absurd g
  one_graph_name (Some t) (Some u) g x y = ap Some (one_term t u g x y)

  one_quad : (st su : Statement) → In st D.statements → In su D.statements → line_of c st ≡ line_of c su → st ≡ su
  one_quad st su i j e =
      let plain = HasPlainNames-issued Canonical c D.nodes in
      let x = each-from_All (IsValidStatement D.nodes) D.statements st v.valid i in
      let y = each-from_All (IsValidStatement D.nodes) D.statements su v.valid j in
      let g = same_line (issued_names Canonical c) (issued_names Canonical c) D.nodes D.nodes plain plain st su x y e in
      λ k. record {
        subject = one_term st.subject su.subject g.subject x.subject y.subject k;
        predicate = one_term st.predicate su.predicate g.predicate x.predicate y.predicate k;
        object = one_term st.object su.object g.object x.object y.object k;
        graph_name = one_graph_name st.graph_name su.graph_name g.graph_name x.graph_name y.graph_name k;
      }

  pub lines_are_distinct : AreDistinct (map (line_of c) D.statements)
  lines_are_distinct = AreDistinct-map (line_of c) D.statements one_quad v.distinct
