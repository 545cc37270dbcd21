-- What a document says is numbered in one way, and can be numbered whole.
use Rattle.std.proofs.Common.{◌≡◌, ◌<◌, ◌≤◌, Bool, true, false, ◌&&◌, List, [], ◌∷◌, ◌++◌, Option, Some, None, length, map, refl, sym, ap, subst, ◌∙◌, arith, ◌⊎◌, inl, inr, append-nil, true≢false}
use Rattle.std.specs.List.{AllZip}
use Rattle.std.proofs.lemmas.List.{length-map, length-append}
use Rattle.std.proofs.lemmas.Bool.{and_from, and_parts}
use Rattle.rdf_terms.proofs.Common.{AreDistinct, Statement, Document, statements, AddsAll, Finishes, new_number, used_below, label_at, relabel_statement, TellsEqual, one_place, AreDistinct-AddsAll, AddsAll-same, AddsAll-append, AddsAll-extends, add_all, terms_tell}
use Rattle.rdf_terms.specs.declared.term.Term.{Term}
use Rattle.rdf_terms.specs.declared.term.Term.TheVariants.{Blank}
use Rattle.rdf_terms.specs.declared.term.Label.{Label}
use Rattle.rdf_terms.specs.contracts.term.TermPartialEq.TheImpl.{eq-value as eq-term}
use Rattle.trig_terms.specs.Meaning.{Said, StatedQuad, Told}
use Rattle.trig_terms.specs.Meaning.Said.{Iri, Node, Literal}
use Rattle.trig_builder.specs.Numbered.{IsTermOf, IsGraphNameOf, IsStatementOf}
use Rattle.trig_builder.specs.Telling.{Drafts}
use Rattle.trig_builder.specs.declared.TheConstants.{MAX_QUADS}
use Rattle.trig_reader.specs.Document.{AreNumbered, AreStated}

-- ---- in one way

module _ (labels : List Label) (distinct : AreDistinct labels) where
  term-same : (said : Said) (t u : Term) → IsTermOf labels said t → IsTermOf labels said u → t ≡ u
  term-same (Iri text) t u h k = h ∙ sym k
  term-same (Node label) t u h k = h.2 ∙ ap Blank (one_place labels h.0 k.0 label distinct h.1 k.1) ∙ sym k.2
  term-same (Literal literal) t u h k = h ∙ sym k

  graph_name-same : (said : Option Said) (t u : Option Term) → IsGraphNameOf labels said t → IsGraphNameOf labels said u → t ≡ u
  graph_name-same None t u h k = h ∙ sym k
  graph_name-same (Some said) t u h k = h.2 ∙ ap Some (term-same said h.0 k.0 h.1 k.1) ∙ sym k.2

  statement-same : (quad : StatedQuad) (one other : Statement) → IsStatementOf labels quad one → IsStatementOf labels quad other → one ≡ other
  statement-same quad one other h k =
      let s = term-same quad.subject one.subject other.subject h.subject k.subject in
      let p = term-same quad.predicate one.predicate other.predicate h.predicate k.predicate in
      let o = term-same quad.object one.object other.object h.object k.object in
      let g = graph_name-same quad.graph_name one.graph_name other.graph_name h.graph_name k.graph_name in
      λ i. record { subject = s i; predicate = p i; object = o i; graph_name = g i }

  statements-same : (quads : List StatedQuad) (one other : List Statement) → AllZip (IsStatementOf labels) quads one → AllZip (IsStatementOf labels) quads other → one ≡ other
  statements-same [] [] [] h k = refl
  statements-same [] (x ∷ xs) other h k = absurd h
  statements-same [] [] (y ∷ ys) h k = absurd k
  statements-same (q ∷ qs) [] other h k = absurd h
  statements-same (q ∷ qs) (x ∷ xs) [] h k = absurd k
  statements-same (q ∷ qs) (x ∷ xs) (y ∷ ys) h k =
      let first = statement-same q x y h.0 k.0 in
      let rest = statements-same qs xs ys h.1 k.1 in
      λ i. first i ∷ rest i

numbered-same : (told : Told) (labels others : List Label) (one other : List Statement) → AreNumbered told labels one → AreNumbered told others other → (labels ≡ others) × (one ≡ other)
numbered-same told labels others one other h k =
    let same : labels ≡ others = AddsAll-same [] told.mentioned labels others h.labels_are k.labels_are in
    let distinct = AreDistinct-AddsAll [] told.mentioned others k.labels_are tt in
    let numbers = subst (λ ls. AllZip (IsStatementOf ls) told.quads h.numbered) same h.numbers in
    let numbered = statements-same others distinct told.quads h.numbered k.numbered numbers k.numbers in
    (same, AddsAll-same [] k.numbered one other (subst (λ ns. AddsAll [] ns one) numbered h.statements_are) k.statements_are)

abbrev used_labels : List Label → List Statement → List Label
used_labels labels said = map (label_at labels) (used_below said (length labels))

abbrev renumbered : List Statement → List Statement
renumbered said = map (relabel_statement (new_number said)) said

pub stated-same : (told : Told) (labels others : List Label) (one other : List Statement) → AreStated told labels one → AreStated told others other → (labels ≡ others) × (one ≡ other)
stated-same told labels others one other h k =
    let same = numbered-same told h.mentioned k.mentioned h.said k.said h.numbered k.numbered in
    (h.labels_are ∙ (λ i. used_labels (same.0 i) (same.1 i)) ∙ sym k.labels_are, h.statements_are ∙ ap renumbered same.1 ∙ sym k.statements_are)

-- ---- statements are told apart

same_graph_name : Option Term → Option Term → Bool
same_graph_name None None = true
same_graph_name None (Some y) = false
same_graph_name (Some x) None = false
same_graph_name (Some x) (Some y) = eq-term.it x y

graph_name_is : (x y : Option Term) → same_graph_name x y ≡ true → x ≡ y
unfolding same_graph_name
graph_name_is None None h = refl
graph_name_is None (Some y) h = absurd (true≢false (sym h))
graph_name_is (Some x) None h = absurd (true≢false (sym h))
graph_name_is (Some x) (Some y) h = ap Some (terms_tell.same x y h)

graph_name_itself : (x : Option Term) → same_graph_name x x ≡ true
unfolding same_graph_name
graph_name_itself None = refl
graph_name_itself (Some x) = terms_tell.itself x

same_statement : Statement → Statement → Bool
same_statement x y = eq-term.it x.subject y.subject && (eq-term.it x.predicate y.predicate && (eq-term.it x.object y.object && same_graph_name x.graph_name y.graph_name))

statement_is : (x y : Statement) → same_statement x y ≡ true → x ≡ y
unfolding same_statement
statement_is x y h =
    let one = and_parts (eq-term.it x.subject y.subject) (eq-term.it x.predicate y.predicate && (eq-term.it x.object y.object && same_graph_name x.graph_name y.graph_name)) h in
    let two = and_parts (eq-term.it x.predicate y.predicate) (eq-term.it x.object y.object && same_graph_name x.graph_name y.graph_name) one.1 in
    let three = and_parts (eq-term.it x.object y.object) (same_graph_name x.graph_name y.graph_name) two.1 in
    let s = terms_tell.same x.subject y.subject one.0 in
    let p = terms_tell.same x.predicate y.predicate two.0 in
    let o = terms_tell.same x.object y.object three.0 in
    let g = graph_name_is x.graph_name y.graph_name three.1 in
    λ i. record { subject = s i; predicate = p i; object = o i; graph_name = g i }

statement_itself : (x : Statement) → same_statement x x ≡ true
unfolding same_statement
statement_itself x =
    and_from (eq-term.it x.subject x.subject) (eq-term.it x.predicate x.predicate && (eq-term.it x.object x.object && same_graph_name x.graph_name x.graph_name)) (terms_tell.itself x.subject)
    (and_from (eq-term.it x.predicate x.predicate) (eq-term.it x.object x.object && same_graph_name x.graph_name x.graph_name) (terms_tell.itself x.predicate)
    (and_from (eq-term.it x.object x.object) (same_graph_name x.graph_name x.graph_name) (terms_tell.itself x.object) (graph_name_itself x.graph_name)))

statements_tell : TellsEqual same_statement
statements_tell = record { same = statement_is; itself = statement_itself }

-- ---- all that is said

-- a draft with more quads than there may be holds the first of those that are said, and all of them are more too
pub record IsMany (told : Told) : Type 0 where
  pub labels : List Label
  pub sts : List Statement
  pub stated : AreStated told labels sts
  pub many : MAX_QUADS < length sts

pub many_stated : (draft : Document) (told : Told) → Drafts draft told → MAX_QUADS < length (statements draft) → IsMany told
many_stated draft told drafts many =
    let front = drafts.drafted.front in
    let more = drafts.drafted.passed_over in
    let whole = add_all same_statement statements_tell (statements draft) more in
    let grows = AddsAll-extends (statements draft) more whole.0 whole.1 in
    record {
      labels = used_labels draft.labels whole.0;
      sts = renumbered whole.0;
      stated = record {
        mentioned = draft.labels;
        said = whole.0;
        numbered = record {
          numbered = front ++ more;
          labels_are = drafts.labels;
          numbers = drafts.drafted.numbers;
          statements_are = AddsAll-append [] front (statements draft) more whole.0 drafts.drafted.adds whole.1;
        };
        labels_are = refl;
        statements_are = refl;
      };
      many = omega (arith, many, ap length grows.1, length-append (statements draft) grows.0, length-map whole.0 (relabel_statement (new_number whole.0)));
    }

-- within the limit the draft holds all that is said
pub within_stated : (draft whole : Document) (told : Told) → Drafts draft told → length (statements draft) ≤ MAX_QUADS → Finishes draft whole → AreStated told whole.labels (statements whole)
within_stated draft whole told drafts within finishes = by drafts.drafted.all_or_full
  where
    by : (drafts.drafted.passed_over ≡ []) ⊎ (MAX_QUADS < length (statements draft)) → AreStated told whole.labels (statements whole)
    by (inr full) = absurd (omega (arith, full, within))
    by (inl nothing) = record {
      mentioned = draft.labels;
      said = statements draft;
      numbered = record {
        numbered = drafts.drafted.front;
        labels_are = drafts.labels;
        numbers = subst (AllZip (IsStatementOf draft.labels) told.quads) (ap (λ l. drafts.drafted.front ++ l) nothing ∙ append-nil drafts.drafted.front) drafts.drafted.numbers;
        statements_are = drafts.drafted.adds;
      };
      labels_are = finishes.labels_are;
      statements_are = finishes.statements_are;
    }
