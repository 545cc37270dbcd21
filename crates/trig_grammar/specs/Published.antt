-- The grammar of TriG as it is published (RDF 1.1 TriG, section 4.5), with its operators, and which tokens it derives.
use Rattle.std.specs.Prelude.{◌↔◌, List, [], ◌∷◌}
use Rattle.trig_lexer.specs.declared.kind.Kind.{Kind}
use Rattle.trig_lexer.specs.declared.kind.Kind.TheVariants.{AtPrefix, AtBase, WordPrefix, WordBase, WordGraph, WordA, WordTrue, WordFalse, Dot, Semicolon, Comma, Carets, LeftBrace, RightBrace, LeftBracket, RightBracket, LeftParen, RightParen, IriRef, PnameNs, PnameLn, BlankLabel, Anon, Integer, Decimal, Double, Quoted, LangTag, End}
use Rattle.trig_grammar.specs.Grammar.{IsSentence}

-- the names of the grammar
pub data Part : Type 0 where
  trigDoc : Part
  block : Part
  triplesOrGraph : Part
  triples2 : Part
  wrappedGraph : Part
  triplesBlock : Part
  labelOrSubject : Part
  directive : Part
  prefixID : Part
  base : Part
  sparqlPrefix : Part
  sparqlBase : Part
  triples : Part
  predicateObjectList : Part
  objectList : Part
  verb : Part
  subject : Part
  object : Part
  literal : Part
  rdfLiteral : Part
  blankNodePropertyList : Part
  collection : Part
  iri : Part
  blankNode : Part

infixr 20 ◌⨾◌
infixr 10 ◌∣◌
-- right sides: a token, a part, one behind the other, either, one or none, and any number
pub data Expression : Type 0 where
  token : Kind → Expression
  part : Part → Expression
  ◌⨾◌ : Expression → Expression → Expression
  ◌∣◌ : Expression → Expression → Expression
  maybe : Expression → Expression
  many : Expression → Expression

abbrev pub is : Part → Expression
is trigDoc = many (part directive ∣ part block)
is block =
    part triplesOrGraph ∣ part wrappedGraph ∣ part triples2 ∣ token WordGraph ⨾ part labelOrSubject ⨾ part wrappedGraph
is triplesOrGraph = part labelOrSubject ⨾ (part wrappedGraph ∣ part predicateObjectList ⨾ token Dot)
is triples2 =
    part blankNodePropertyList ⨾ maybe
    (part predicateObjectList) ⨾ token Dot ∣ part collection ⨾ part predicateObjectList ⨾ token Dot
is wrappedGraph = token LeftBrace ⨾ maybe (part triplesBlock) ⨾ token RightBrace
is triplesBlock = part triples ⨾ maybe (token Dot ⨾ maybe (part triplesBlock))
is labelOrSubject = part iri ∣ part blankNode
is directive = part prefixID ∣ part base ∣ part sparqlPrefix ∣ part sparqlBase
is prefixID = token AtPrefix ⨾ token PnameNs ⨾ token IriRef ⨾ token Dot
is base = token AtBase ⨾ token IriRef ⨾ token Dot
is sparqlPrefix = token WordPrefix ⨾ token PnameNs ⨾ token IriRef
is sparqlBase = token WordBase ⨾ token IriRef
is triples = part subject ⨾ part predicateObjectList ∣ part blankNodePropertyList ⨾ maybe (part predicateObjectList)
is predicateObjectList = part verb ⨾ part objectList ⨾ many (token Semicolon ⨾ maybe (part verb ⨾ part objectList))
is objectList = part object ⨾ many (token Comma ⨾ part object)
is verb = part iri ∣ token WordA
is subject = part iri ∣ part blankNode ∣ part collection
is object = part iri ∣ part blankNode ∣ part collection ∣ part blankNodePropertyList ∣ part literal
is literal = part rdfLiteral ∣ token Integer ∣ token Decimal ∣ token Double ∣ token WordTrue ∣ token WordFalse
is rdfLiteral = token Quoted ⨾ maybe (token LangTag ∣ token Carets ⨾ part iri)
is blankNodePropertyList = token LeftBracket ⨾ part predicateObjectList ⨾ token RightBracket
is collection = token LeftParen ⨾ many (part object) ⨾ token RightParen
is iri = token IriRef ∣ token PnameLn ∣ token PnameNs
is blankNode = token BlankLabel ∣ token Anon

-- A derivation tree: the tokens begin with what the expression derives, and the rest follows.
pub data Tree : Expression → List Kind → List Kind → Type 0 where
  leaf : {kind : Kind} {rest : List Kind} → Tree (token kind) (kind ∷ rest) rest
  node : {name : Part} {all rest : List Kind} → Tree (is name) all rest → Tree (part name) all rest
  both : {one other : Expression} {all middle rest : List Kind} → Tree one all middle → Tree other middle rest
      → Tree (one ⨾ other) all rest
  first : {one other : Expression} {all rest : List Kind} → Tree one all rest → Tree (one ∣ other) all rest
  second : {one other : Expression} {all rest : List Kind} → Tree other all rest → Tree (one ∣ other) all rest
  without : {one : Expression} {all : List Kind} → Tree (maybe one) all all
  with : {one : Expression} {all rest : List Kind} → Tree one all rest → Tree (maybe one) all rest
  no_more : {one : Expression} {all : List Kind} → Tree (many one) all all
  one_more : {one : Expression} {all middle rest : List Kind} → Tree one all middle → Tree (many one) middle rest
      → Tree (many one) all rest

-- the leaves of some tree of the grammar, and the end
abbrev pub IsPublishedSentence : List Kind → Type 0
IsPublishedSentence kinds = Tree (part trigDoc ⨾ token End) kinds []

-- both grammars have the same sentences
abbrev pub HaveSameSentences : Type 0
HaveSameSentences = (kinds : List Kind) → IsPublishedSentence kinds ↔ IsSentence kinds
