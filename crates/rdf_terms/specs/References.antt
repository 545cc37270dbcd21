-- What terms and labels by reference stand for.
use Rattle.std.specs.Prelude.{Option, Some, None}
use Rattle.rdf_terms.specs.Terms.{Statement}
use Rattle.rdf_terms.specs.declared.term.Term.{Term}
use Rattle.rdf_terms.specs.declared.term.Term.TheVariants.{Iri, Blank, Literal}
use Rattle.rdf_terms.specs.declared.term.Literal.{Literal as LiteralValue}
use Rattle.rdf_terms.specs.declared.term.LiteralKind.{LiteralKind}
use Rattle.rdf_terms.specs.declared.term.LiteralKind.TheVariants.{Typed, Tagged}
use Rattle.rdf_terms.specs.declared.term.Label.{Label}
use Rattle.rdf_terms.specs.declared.term.Label.TheVariants.{Named, Anonymous}
use Rattle.rdf_terms.specs.declared.term_ref.TermRef.{TermRef}
use Rattle.rdf_terms.specs.declared.term_ref.TermRef.TheVariants.{Iri as IriRef, Blank as BlankRef, Literal as LiteralRef}
use Rattle.rdf_terms.specs.declared.term_ref.LiteralRef.{LiteralRef as LiteralReference}
use Rattle.rdf_terms.specs.declared.term_ref.LiteralKindRef.{LiteralKindRef}
use Rattle.rdf_terms.specs.declared.term_ref.LiteralKindRef.TheVariants.{Typed as TypedRef, Tagged as TaggedRef}
use Rattle.rdf_terms.specs.declared.term_ref.LabelRef.{LabelRef}
use Rattle.rdf_terms.specs.declared.term_ref.LabelRef.TheVariants.{Named as NamedRef, Anonymous as AnonymousRef}
use Rattle.rdf_terms.specs.declared.term_ref.StatementRef.{StatementRef}

abbrev pub kind_of : LiteralKindRef → LiteralKind
kind_of (TypedRef iri) = Typed iri.now
kind_of (TaggedRef tag) = Tagged tag.now

abbrev pub literal_of : LiteralReference → LiteralValue
literal_of l = record { lexical = l.lexical.now; kind = kind_of l.kind }

abbrev pub term_of : TermRef → Term
term_of (IriRef iri) = Iri iri.now
term_of (BlankRef node) = Blank node
term_of (LiteralRef l) = Literal (literal_of l)

abbrev pub graph_name_of : Option TermRef → Option Term
graph_name_of None = None
graph_name_of (Some t) = Some (term_of t)

abbrev pub statement_of : StatementRef → Statement
statement_of q = record {
  subject = term_of q.subject;
  predicate = term_of q.predicate;
  object = term_of q.object;
  graph_name = graph_name_of q.graph_name;
}

abbrev pub label_of : LabelRef → Label
label_of (NamedRef name) = Named name.now
label_of (AnonymousRef n) = Anonymous n
