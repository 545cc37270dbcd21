-- The derived `==` of terms and labels tells which are equal.
use Rattle.std.proofs.Common.{◌≡◌, true, sym, ap, true≢false}
use Rattle.std.specs.Str.{bytes_eq}
use Rattle.std.proofs.lemmas.Bool.{and_parts, eqb-true}
use Rattle.std.proofs.lemmas.Slice.Eq.{bytes_eq-Decides}
use Rattle.rdf_terms.specs.declared.term.Term.{Term}
use Rattle.rdf_terms.specs.declared.term.Term.TheVariants.{Iri, Blank, Literal}
use Rattle.rdf_terms.specs.declared.term.Literal.{Literal as LiteralValue}
use Rattle.rdf_terms.specs.declared.term.LiteralKind.{LiteralKind}
use Rattle.rdf_terms.specs.declared.term.LiteralKind.TheVariants.{Typed, Tagged}
use Rattle.rdf_terms.specs.declared.term.Label.{Label}
use Rattle.rdf_terms.specs.declared.term.Label.TheVariants.{Named, Anonymous}
use Rattle.rdf_terms.specs.contracts.term.TermPartialEq.TheImpl.{eq-value as eq-term}
use Rattle.rdf_terms.specs.contracts.term.LiteralPartialEq.TheImpl.{eq-value as eq-literal}
use Rattle.rdf_terms.specs.contracts.term.LiteralKindPartialEq.TheImpl.{eq-value as eq-kind}
use Rattle.rdf_terms.specs.contracts.term.LabelPartialEq.TheImpl.{eq-value as eq-label}

same_kind : (a b : LiteralKind) → eq-kind.it a b ≡ true → a ≡ b
same_kind (Typed a) (Typed b) h = ap Typed ((bytes_eq-Decides a b).0 h)
same_kind (Tagged a) (Tagged b) h = ap Tagged ((bytes_eq-Decides a b).0 h)
same_kind (Typed a) (Tagged b) h = absurd (true≢false (sym h))
same_kind (Tagged a) (Typed b) h = absurd (true≢false (sym h))

same_literal : (a b : LiteralValue) → eq-literal.it a b ≡ true → a ≡ b
same_literal a b h =
    let p = and_parts (bytes_eq a.lexical b.lexical) (eq-kind.it a.kind b.kind) h in
    let l : a.lexical ≡ b.lexical = (bytes_eq-Decides a.lexical b.lexical).0 p.0 in
    let k : a.kind ≡ b.kind = same_kind a.kind b.kind p.1 in
    λ i. record { lexical = l i; kind = k i }

pub same_term : (a b : Term) → eq-term.it a b ≡ true → a ≡ b
same_term (Iri a) (Iri b) h = ap Iri ((bytes_eq-Decides a b).0 h)
same_term (Iri a) (Blank b) h = absurd (true≢false (sym h))
same_term (Iri a) (Literal b) h = absurd (true≢false (sym h))
same_term (Blank a) (Blank b) h = ap Blank (eqb-true a b h)
same_term (Blank a) (Iri b) h = absurd (true≢false (sym h))
same_term (Blank a) (Literal b) h = absurd (true≢false (sym h))
same_term (Literal a) (Literal b) h = ap Literal (same_literal a b h)
same_term (Literal a) (Iri b) h = absurd (true≢false (sym h))
same_term (Literal a) (Blank b) h = absurd (true≢false (sym h))

pub same_label : (a b : Label) → eq-label.it a b ≡ true → a ≡ b
same_label (Named a) (Named b) h = ap Named ((bytes_eq-Decides a b).0 h)
same_label (Anonymous a) (Anonymous b) h = ap Anonymous (eqb-true a b h)
same_label (Named a) (Anonymous b) h = absurd (true≢false (sym h))
same_label (Anonymous a) (Named b) h = absurd (true≢false (sym h))
