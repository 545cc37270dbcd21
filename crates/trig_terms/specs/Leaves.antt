-- What each token of a text stands for by itself (RDF 1.1 TriG, sections 4.5 and 5.2).
use Rattle.std.specs.Prelude.{◌≡◌, ℕ, Bool, false, ◌-◌, ◌==◌, ◌⊎◌, [], ◌∷◌, ◌++◌, take, drop, codes, encode_utf8_all, All}
use Rattle.std.specs.List.{before_first, after_first}
use Rattle.rdf_terms.specs.Vocabulary.{Text, is_excluded, IsAbsoluteIri, IsLanguageTag}
use Rattle.terminals.specs.Terminal.{Characters}
use Rattle.terminals.specs.Terminals.{IriRef as Iri, ShortString, BlankNodeLabel, LangTag as TagTerminal}
use Rattle.terminals.specs.Spellings.{quote_mark, SpellsOne}
use Rattle.terminals.specs.declared.bodies.Quote.{Quote}
use Rattle.terminals.specs.declared.bodies.Body.TheVariants.{Long}
use Rattle.terminals.specs.declared.labels.Grammar.TheVariants.{TriG}
use Rattle.trig_lexer.specs.Strings.{three_marks, IsLongString}
use Rattle.trig_lexer.specs.Names.{unescaped}
use Rattle.trig_lexer.specs.Tokens.{IsToken}
use Rattle.trig_lexer.specs.declared.kind.Kind.{Kind}
use Rattle.trig_lexer.specs.declared.kind.Kind.TheVariants.{WordTrue, WordFalse, IriRef, PnameNs, PnameLn, BlankLabel, Anon, Integer, Decimal, Double, Quoted, LangTag}
use Rattle.trig_lexer.specs.declared.token.Token.{Token}
use Rattle.trig_terms.specs.declared.leaf.Leaf.{Leaf}
use Rattle.trig_terms.specs.declared.leaf.Leaf.TheVariants.{Mark, Iri as IriLeaf, Namespace, Name, Label, Anonymous, Typed, Quoted as StringLeaf, Tag}
use Rattle.trig_terms.specs.Meaning.{xsd}

-- the bytes of the token
abbrev pub bytes_of : Text → Token → Text
bytes_of text token = take (token.end - token.start) (drop token.start text)

-- these bytes spell a token of the kind
pub record IsSpelled (kind : Kind) (bytes : Text) : Type 0 where
  pub after_string : Bool
  pub spelled : Characters
  pub bytes_are : bytes ≡ encode_utf8_all spelled
  pub fits : IsToken after_string kind spelled

-- these bytes spell a terminal with this value
pub record HasValue (terminal : Characters → Characters → Type 0) (bytes value : Text) : Type 0 where
  pub spelled : Characters
  pub meant : Characters
  pub bytes_are : bytes ≡ encode_utf8_all spelled
  pub value_is : value ≡ encode_utf8_all meant
  pub fits : terminal spelled meant

-- ---- strings

-- Between three marks and three a mark stands for itself, and what is no mark is spelled as in every string.
abbrev pub MeansOne : Quote → Characters → ℕ → Type 0
MeansOne quote spelled c = ((spelled ≡ c ∷ []) × (c ≡ quote_mark quote)) ⊎ SpellsOne (Long quote) spelled c

abbrev pub Means : Quote → Characters → Characters → Type 0
Means quote spelled [] = spelled ≡ []
Means quote spelled (c ∷ cs) =
    (first : Characters) × (more : Characters) × (spelled ≡ first ++ more) × MeansOne quote first c
    × Means quote more cs

-- a long string and its value
pub record LongString (quote : Quote) (spelled value : Characters) : Type 0 where
  pub is_string : IsLongString quote spelled
  pub inside : Characters
  pub marks : spelled ≡ three_marks quote ++ (inside ++ three_marks quote)
  pub means : Means quote inside value

-- a string with its value, between one mark and one or between three and three
abbrev pub StringIn : Characters → Characters → Type 0
StringIn spelled value = (quote : Quote) × (ShortString quote spelled value ⊎ LongString quote spelled value)

-- ---- names

abbrev pub is_colon : ℕ → Bool
is_colon c = c == 58

-- ---- leaves

-- what bytes that spell a token of the kind stand for
abbrev pub IsLeafOf : Kind → Text → Leaf → Type 0
IsLeafOf IriRef bytes leaf = (value : Text) × HasValue Iri bytes value × (leaf ≡ IriLeaf value)
IsLeafOf PnameNs bytes leaf = leaf ≡ Namespace (before_first is_colon bytes)
IsLeafOf PnameLn bytes leaf = leaf ≡ Name (before_first is_colon bytes) (unescaped (after_first is_colon bytes))
IsLeafOf BlankLabel bytes leaf = (value : Text) × HasValue (BlankNodeLabel TriG) bytes value × (leaf ≡ Label value)
IsLeafOf Anon bytes leaf = leaf ≡ Anonymous
IsLeafOf Integer bytes leaf = leaf ≡ Typed bytes (xsd (codes "integer"))
IsLeafOf Decimal bytes leaf = leaf ≡ Typed bytes (xsd (codes "decimal"))
IsLeafOf Double bytes leaf = leaf ≡ Typed bytes (xsd (codes "double"))
IsLeafOf WordTrue bytes leaf = leaf ≡ Typed bytes (xsd (codes "boolean"))
IsLeafOf WordFalse bytes leaf = leaf ≡ Typed bytes (xsd (codes "boolean"))
IsLeafOf Quoted bytes leaf = (value : Text) × HasValue StringIn bytes value × (leaf ≡ StringLeaf value)
IsLeafOf LangTag bytes leaf = (value : Text) × HasValue TagTerminal bytes value × (leaf ≡ Tag value)
IsLeafOf kind bytes leaf = leaf ≡ Mark kind

abbrev pub IsLeaf : Text → Token → Leaf → Type 0
IsLeaf text token leaf = IsLeafOf token.kind (bytes_of text token) leaf

-- what every leaf of a token keeps: no excluded character stands in an IRI or in the local part of a name, and
-- datatypes and tags are such
abbrev pub IsValidLeaf : Leaf → Type 0
IsValidLeaf (IriLeaf text) = All (λ c. is_excluded c ≡ false) text
IsValidLeaf (Name prefix local) = All (λ c. is_excluded c ≡ false) local
IsValidLeaf (Typed lexical datatype) = IsAbsoluteIri datatype
IsValidLeaf (Tag tag) = IsLanguageTag tag
IsValidLeaf _ = Unit {0}
