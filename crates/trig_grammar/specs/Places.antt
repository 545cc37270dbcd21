-- The places of the table of the grammar: a column for each kind of token, a row for each name.
use Rattle.std.specs.Prelude.{ℕ, List, [], ◌∷◌}
use Rattle.trig_lexer.specs.declared.kind.Kind.{Kind}
use Rattle.trig_lexer.specs.declared.kind.Kind.TheVariants.{AtPrefix, AtBase, WordPrefix, WordBase, WordGraph, WordA, WordTrue, WordFalse, Dot, Semicolon, Comma, Carets, LeftBrace, RightBrace, LeftBracket, RightBracket, LeftParen, RightParen, IriRef, PnameNs, PnameLn, BlankLabel, Anon, Integer, Decimal, Double, Quoted, LangTag, End}
use Rattle.trig_grammar.specs.declared.nonterminal.Nonterminal.{Nonterminal}
use Rattle.trig_grammar.specs.declared.nonterminal.Nonterminal.TheVariants.{Document, Statement, Block, TriplesOrGraph, AfterLabel, Triples2, WrappedGraph, MaybeTriples, TriplesBlock, MoreTriples, LabelOrSubject, Directive, PrefixId, Base, SparqlPrefix, SparqlBase, Triples, MaybePredicates, Predicates, MorePredicates, MaybePredicate, Objects, MoreObjects, Verb, Subject, Object, Literal, RdfLiteral, Suffix, PropertyList, Collection, Items, Iri, BlankNode}

-- the place of a kind among all kinds
abbrev pub column : Kind → ℕ
column AtPrefix = 0
column AtBase = 1
column WordPrefix = 2
column WordBase = 3
column WordGraph = 4
column WordA = 5
column WordTrue = 6
column WordFalse = 7
column Dot = 8
column Semicolon = 9
column Comma = 10
column Carets = 11
column LeftBrace = 12
column RightBrace = 13
column LeftBracket = 14
column RightBracket = 15
column LeftParen = 16
column RightParen = 17
column IriRef = 18
column PnameNs = 19
column PnameLn = 20
column BlankLabel = 21
column Anon = 22
column Integer = 23
column Decimal = 24
column Double = 25
column Quoted = 26
column LangTag = 27
column End = 28

-- the columns of all kinds
abbrev pub columns : List ℕ
columns =
    0 ∷ 1 ∷ 2 ∷ 3 ∷ 4 ∷ 5 ∷ 6 ∷ 7 ∷ 8 ∷ 9 ∷ 10 ∷ 11 ∷ 12 ∷ 13 ∷ 14 ∷ 15 ∷ 16 ∷ 17 ∷ 18 ∷ 19 ∷ 20 ∷ 21 ∷ 22 ∷ 23 ∷ 24
    ∷ 25 ∷ 26 ∷ 27 ∷ 28 ∷ []

-- the place of a name among all names
abbrev pub row : Nonterminal → ℕ
row Document = 0
row Statement = 1
row Block = 2
row TriplesOrGraph = 3
row AfterLabel = 4
row Triples2 = 5
row WrappedGraph = 6
row MaybeTriples = 7
row TriplesBlock = 8
row MoreTriples = 9
row LabelOrSubject = 10
row Directive = 11
row PrefixId = 12
row Base = 13
row SparqlPrefix = 14
row SparqlBase = 15
row Triples = 16
row MaybePredicates = 17
row Predicates = 18
row MorePredicates = 19
row MaybePredicate = 20
row Objects = 21
row MoreObjects = 22
row Verb = 23
row Subject = 24
row Object = 25
row Literal = 26
row RdfLiteral = 27
row Suffix = 28
row PropertyList = 29
row Collection = 30
row Items = 31
row Iri = 32
row BlankNode = 33
