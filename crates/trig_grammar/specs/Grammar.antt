-- The grammar of TriG (RDF 1.1 TriG, section 4.5) in productions without operators: what is optional, repeated or one
-- of several has a name and a production for each way.
use Rattle.std.specs.Prelude.{List, [], ◌∷◌, ◌++◌}
use Rattle.rdf_terms.specs.Lists.{In}
use Rattle.trig_lexer.specs.declared.kind.Kind.{Kind}
use Rattle.trig_lexer.specs.declared.kind.Kind.TheVariants.{AtPrefix, AtBase, WordPrefix, WordBase, WordGraph, WordA, WordTrue, WordFalse, Dot, Semicolon, Comma, Carets, LeftBrace, RightBrace, LeftBracket, RightBracket, LeftParen, RightParen, IriRef, PnameNs, PnameLn, BlankLabel, Anon, Integer, Decimal, Double, Quoted, LangTag, End}
use Rattle.trig_grammar.specs.declared.symbol.Symbol.{Symbol}
use Rattle.trig_grammar.specs.declared.symbol.Symbol.TheVariants.{Token, Name}
use Rattle.trig_grammar.specs.declared.nonterminal.Nonterminal.{Nonterminal}
use Rattle.trig_grammar.specs.declared.nonterminal.Nonterminal.TheVariants.{Document, Statement, Block, TriplesOrGraph, AfterLabel, Triples2, WrappedGraph, MaybeTriples, TriplesBlock, MoreTriples, LabelOrSubject, Directive, PrefixId, Base, SparqlPrefix, SparqlBase, Triples, MaybePredicates, Predicates, MorePredicates, MaybePredicate, Objects, MoreObjects, Verb, Subject, Object, Literal, RdfLiteral, Suffix, PropertyList, Collection, Items, Iri, BlankNode}

-- a name and what may stand for it
pub record Rule : Type 0 where
  pub head : Nonterminal
  pub body : List Symbol

abbrev pub rule : Nonterminal → List Symbol → Rule
rule head body = record { head = head; body = body }

-- production k is the k-th of these, counted from 0
unfoldable pub rules : List Rule
rules =
    rule Document ([])
    ∷ rule Document (Name Statement ∷ Name Document ∷ [])
    ∷ rule Statement (Name Directive ∷ [])
    ∷ rule Statement (Name Block ∷ [])
    ∷ rule Block (Name TriplesOrGraph ∷ [])
    ∷ rule Block (Name WrappedGraph ∷ [])
    ∷ rule Block (Name Triples2 ∷ [])
    ∷ rule Block (Token WordGraph ∷ Name LabelOrSubject ∷ Name WrappedGraph ∷ [])
    ∷ rule TriplesOrGraph (Name LabelOrSubject ∷ Name AfterLabel ∷ [])
    ∷ rule AfterLabel (Name WrappedGraph ∷ [])
    ∷ rule AfterLabel (Name Predicates ∷ Token Dot ∷ [])
    ∷ rule Triples2 (Name PropertyList ∷ Name MaybePredicates ∷ Token Dot ∷ [])
    ∷ rule Triples2 (Name Collection ∷ Name Predicates ∷ Token Dot ∷ [])
    ∷ rule WrappedGraph (Token LeftBrace ∷ Name MaybeTriples ∷ Token RightBrace ∷ [])
    ∷ rule MaybeTriples ([])
    ∷ rule MaybeTriples (Name TriplesBlock ∷ [])
    ∷ rule TriplesBlock (Name Triples ∷ Name MoreTriples ∷ [])
    ∷ rule MoreTriples ([])
    ∷ rule MoreTriples (Token Dot ∷ Name MaybeTriples ∷ [])
    ∷ rule LabelOrSubject (Name Iri ∷ [])
    ∷ rule LabelOrSubject (Name BlankNode ∷ [])
    ∷ rule Directive (Name PrefixId ∷ [])
    ∷ rule Directive (Name Base ∷ [])
    ∷ rule Directive (Name SparqlPrefix ∷ [])
    ∷ rule Directive (Name SparqlBase ∷ [])
    ∷ rule PrefixId (Token AtPrefix ∷ Token PnameNs ∷ Token IriRef ∷ Token Dot ∷ [])
    ∷ rule Base (Token AtBase ∷ Token IriRef ∷ Token Dot ∷ [])
    ∷ rule SparqlPrefix (Token WordPrefix ∷ Token PnameNs ∷ Token IriRef ∷ [])
    ∷ rule SparqlBase (Token WordBase ∷ Token IriRef ∷ [])
    ∷ rule Triples (Name Subject ∷ Name Predicates ∷ [])
    ∷ rule Triples (Name PropertyList ∷ Name MaybePredicates ∷ [])
    ∷ rule MaybePredicates ([])
    ∷ rule MaybePredicates (Name Predicates ∷ [])
    ∷ rule Predicates (Name Verb ∷ Name Objects ∷ Name MorePredicates ∷ [])
    ∷ rule MorePredicates ([])
    ∷ rule MorePredicates (Token Semicolon ∷ Name MaybePredicate ∷ Name MorePredicates ∷ [])
    ∷ rule MaybePredicate ([])
    ∷ rule MaybePredicate (Name Verb ∷ Name Objects ∷ [])
    ∷ rule Objects (Name Object ∷ Name MoreObjects ∷ [])
    ∷ rule MoreObjects ([])
    ∷ rule MoreObjects (Token Comma ∷ Name Object ∷ Name MoreObjects ∷ [])
    ∷ rule Verb (Name Iri ∷ [])
    ∷ rule Verb (Token WordA ∷ [])
    ∷ rule Subject (Name Iri ∷ [])
    ∷ rule Subject (Name BlankNode ∷ [])
    ∷ rule Subject (Name Collection ∷ [])
    ∷ rule Object (Name Iri ∷ [])
    ∷ rule Object (Name BlankNode ∷ [])
    ∷ rule Object (Name Collection ∷ [])
    ∷ rule Object (Name PropertyList ∷ [])
    ∷ rule Object (Name Literal ∷ [])
    ∷ rule Literal (Name RdfLiteral ∷ [])
    ∷ rule Literal (Token Integer ∷ [])
    ∷ rule Literal (Token Decimal ∷ [])
    ∷ rule Literal (Token Double ∷ [])
    ∷ rule Literal (Token WordTrue ∷ [])
    ∷ rule Literal (Token WordFalse ∷ [])
    ∷ rule RdfLiteral (Token Quoted ∷ Name Suffix ∷ [])
    ∷ rule Suffix ([])
    ∷ rule Suffix (Token LangTag ∷ [])
    ∷ rule Suffix (Token Carets ∷ Name Iri ∷ [])
    ∷ rule PropertyList (Token LeftBracket ∷ Name Predicates ∷ Token RightBracket ∷ [])
    ∷ rule Collection (Token LeftParen ∷ Name Items ∷ Token RightParen ∷ [])
    ∷ rule Items ([])
    ∷ rule Items (Name Object ∷ Name Items ∷ [])
    ∷ rule Iri (Token IriRef ∷ [])
    ∷ rule Iri (Token PnameLn ∷ [])
    ∷ rule Iri (Token PnameNs ∷ [])
    ∷ rule BlankNode (Token BlankLabel ∷ [])
    ∷ rule BlankNode (Token Anon ∷ [])
    ∷ []

-- The tokens of these kinds may stand for the symbols, one part after the other: each name is replaced by one of its
-- right sides.
pub data Derives : List Symbol → List Kind → Type 0 where
  nothing : Derives [] []
  takes : {kind : Kind} {symbols : List Symbol} {kinds : List Kind} → Derives symbols kinds
      → Derives (Token kind ∷ symbols) (kind ∷ kinds)
  expands : {head : Nonterminal} (body : List Symbol) {symbols : List Symbol} {kinds : List Kind}
      → In (rule head body) rules → Derives (body ++ symbols) kinds → Derives (Name head ∷ symbols) kinds

-- a document, and the end of the text
abbrev pub start : List Symbol
start = Name Document ∷ Token End ∷ []

abbrev pub IsSentence : List Kind → Type 0
IsSentence kinds = Derives start kinds

-- some sentence begins with these
abbrev pub BeginsSentence : List Kind → Type 0
BeginsSentence kinds = (more : List Kind) × IsSentence (kinds ++ more)
