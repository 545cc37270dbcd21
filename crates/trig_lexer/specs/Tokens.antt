-- The tokens of a text (RDF 1.1 TriG, sections 4.1, 4.2 and 4.5): which characters spell one of which kind, and which
-- one is next.
use Rattle.std.specs.Prelude.{◌≡◌, ◌<◌, ◌≤◌, ℕ, Bool, [], ◌∷◌, codes, drop, length}
use Rattle.rdf_terms.specs.Lists.{Text}
use Rattle.terminals.specs.Terminal.{Characters}
use Rattle.terminals.specs.Terminals.{IriRef as Iri, BlankNodeLabel}
use Rattle.terminals.specs.declared.labels.Grammar.TheVariants.{TriG}
use Rattle.trig_lexer.specs.declared.kind.Kind.{Kind}
use Rattle.trig_lexer.specs.declared.kind.Kind.TheVariants.{AtPrefix, AtBase, WordPrefix, WordBase, WordGraph, WordA, WordTrue, WordFalse, Dot, Semicolon, Comma, Carets, LeftBrace, RightBrace, LeftBracket, RightBracket, LeftParen, RightParen, IriRef, PnameNs, PnameLn, BlankLabel, Anon, Integer, Decimal, Double, Quoted, LangTag, End}
use Rattle.trig_lexer.specs.declared.token.Token.{Token}
use Rattle.trig_lexer.specs.Fronts.{TextReads}
use Rattle.trig_lexer.specs.Longest.{BeginsWithLongest, TextBeginsWithNoToken}
use Rattle.trig_lexer.specs.WhiteSpace.{IsSkipped}
use Rattle.trig_lexer.specs.Words.{IsInAnyCase, HasValue, IsAtPrefix, IsAtBase, IsLangTag, IsAnon}
use Rattle.trig_lexer.specs.Numbers.{IsInteger, IsDecimal, IsDouble}
use Rattle.trig_lexer.specs.Strings.{IsQuoted}
use Rattle.trig_lexer.specs.Names.{IsPnameNs, IsPnameLn}

-- Which characters spell a token of which kind, where a string stands before it or none. No characters spell the end of
-- the text.
unfoldable pub IsToken : Bool → Kind → Characters → Type 0
IsToken after_string AtPrefix spelled = IsAtPrefix after_string spelled
IsToken after_string AtBase spelled = IsAtBase after_string spelled
IsToken after_string WordPrefix spelled = IsInAnyCase (codes "PREFIX") spelled
IsToken after_string WordBase spelled = IsInAnyCase (codes "BASE") spelled
IsToken after_string WordGraph spelled = IsInAnyCase (codes "GRAPH") spelled
IsToken after_string WordA spelled = spelled ≡ codes "a"
IsToken after_string WordTrue spelled = spelled ≡ codes "true"
IsToken after_string WordFalse spelled = spelled ≡ codes "false"
IsToken after_string Dot spelled = spelled ≡ codes "."
IsToken after_string Semicolon spelled = spelled ≡ codes ";"
IsToken after_string Comma spelled = spelled ≡ codes ","
IsToken after_string Carets spelled = spelled ≡ codes "^^"
IsToken after_string LeftBrace spelled = spelled ≡ codes "{"
IsToken after_string RightBrace spelled = spelled ≡ codes "}"
IsToken after_string LeftBracket spelled = spelled ≡ codes "["
IsToken after_string RightBracket spelled = spelled ≡ codes "]"
IsToken after_string LeftParen spelled = spelled ≡ codes "("
IsToken after_string RightParen spelled = spelled ≡ codes ")"
IsToken after_string IriRef spelled = HasValue Iri spelled
IsToken after_string PnameNs spelled = IsPnameNs spelled
IsToken after_string PnameLn spelled = IsPnameLn spelled
IsToken after_string BlankLabel spelled = HasValue (BlankNodeLabel TriG) spelled
IsToken after_string Anon spelled = IsAnon spelled
IsToken after_string Integer spelled = IsInteger spelled
IsToken after_string Decimal spelled = IsDecimal spelled
IsToken after_string Double spelled = IsDouble spelled
IsToken after_string Quoted spelled = IsQuoted spelled
IsToken after_string LangTag spelled = IsLangTag after_string spelled
IsToken after_string End spelled = ⊥

-- The token at the front of a text, and the rest: at the end of the text it is `End`, else the longest that fits.
abbrev pub IsNext : Bool → Kind → Characters → Characters → Type 0
IsNext after_string kind [] rest = (kind ≡ End) × (rest ≡ [])
IsNext after_string kind (c ∷ more) rest = BeginsWithLongest (IsToken after_string) (c ∷ more) kind rest

-- The next token should begin at this place: what stands before it, from the first place on, is white space and
-- comments, and it is neither.
pub record IsTokenStart (text : Text) (place start : ℕ) : Type 0 where
  pub behind : place ≤ start
  pub within : start ≤ length text
  pub skips : TextReads IsSkipped (drop place text) (drop start text)

-- The token stands behind the white space and the comments that follow the place.
pub record IsTokenAt (after_string : Bool) (text : Text) (place : ℕ) (token : Token) : Type 0 where
  pub behind : place ≤ token.start
  pub ordered : token.start ≤ token.end
  pub within : token.end ≤ length text
  pub skips : TextReads IsSkipped (drop place text) (drop token.start text)
  pub is_next : TextReads (IsNext after_string token.kind) (drop token.start text) (drop token.end text)

-- Behind the white space and the comments that follow the place the text goes on, and no token fits there.
pub record HasNoTokenAt (after_string : Bool) (text : Text) (place : ℕ) : Type 0 where
  pub start : ℕ
  pub behind : place ≤ start
  pub goes_on : start < length text
  pub skips : TextReads IsSkipped (drop place text) (drop start text)
  pub none : TextBeginsWithNoToken (IsToken after_string) (drop start text)
