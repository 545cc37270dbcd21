-- What a document states, and why none is read (RDF 1.1 TriG, sections 4 and 5).
use Rattle.std.specs.Prelude.{◌≡◌, ◌⊎◌, ℕ, ◌<◌, List, [], ◌∷◌, ◌++◌, Option, Some, None, IsUtf8, length, map}
use Rattle.std.specs.List.{AllZip}
use Rattle.std.specs.Str.{IsValidUpTo}
use Rattle.rdf_terms.specs.Vocabulary.{Text, Statement, AddsAll, new_number, used_below, label_at, relabel_statement}
use Rattle.rdf_terms.specs.declared.term.Label.{Label}
use Rattle.trig_lexer.specs.Tokens.{IsTokenStart}
use Rattle.trig_lexer.specs.declared.token.Token.{Token}
use Rattle.trig_terms.specs.declared.leaf.Leaf.{Leaf}
use Rattle.trig_terms.specs.Leaves.{IsLeaf}
use Rattle.trig_terms.specs.Meaning.{Told, Undefined, says}
use Rattle.trig_terms.specs.Meaning.Undefined.{NoPrefix, NoBase as HasNoBase}
use Rattle.trig_builder.specs.Numbered.{IsStatementOf}
use Rattle.trig_builder.specs.declared.TheConstants.{MAX_QUADS}
use Rattle.trig_reader.specs.Lines.{line_at}
use Rattle.trig_reader.specs.Tokens.{place_behind, BeginsWith, IsNextBehind, HasNoneBehind, HaveNoEnd, AreTokens, kinds, AreSentence, BeginDocument}
use Rattle.trig_reader.specs.declared.fault.TrigFault.{TrigFault}
use Rattle.trig_reader.specs.declared.fault.TrigFault.TheVariants.{NotUtf8, BadTrig, UnknownPrefix, NoBase, TooManyQuads, NoMemory}

-- what the tokens stand for by themselves, one by one
abbrev pub AreLeaves : Text → List Token → List Leaf → Type 0
AreLeaves text tokens leaves = AllZip (IsLeaf text) tokens leaves

-- ---- what is read

-- Node n is the n-th that is mentioned, and the quads are those that are said, each once, in the order in which they
-- were said first.
pub record AreNumbered (told : Told) (labels : List Label) (statements : List Statement) : Type 0 where
  pub numbered : List Statement
  pub labels_are : AddsAll [] told.mentioned labels
  pub numbers : AllZip (IsStatementOf labels) told.quads numbered
  pub statements_are : AddsAll [] numbered statements

-- The same without the blank nodes that stand in no quad; the others are numbered anew in their order.
pub record AreStated (told : Told) (labels : List Label) (statements : List Statement) : Type 0 where
  pub mentioned : List Label
  pub said : List Statement
  pub numbered : AreNumbered told mentioned said
  pub labels_are : labels ≡ map (label_at mentioned) (used_below said (length mentioned))
  pub statements_are : statements ≡ map (relabel_statement (new_number said)) said

-- The bytes are a document, each of whose uses has its definition, where the base is this one, and it states this.
pub record IsTriG (bytes : Text) (base : Option Text) (labels : List Label) (statements : List Statement) : Type 0 where
  pub utf8 : IsUtf8 bytes
  pub tokens : List Token
  pub leaves : List Leaf
  pub are_tokens : AreTokens bytes tokens
  pub sentence : AreSentence tokens
  pub are_leaves : AreLeaves bytes tokens leaves
  pub defined : (says base leaves).undefined ≡ None
  pub states : AreStated (says base leaves).told labels statements

-- ---- why none is read

-- the line of the first byte behind the longest front that is UTF-8
pub record IsNotUtf8 (bytes : Text) (line : ℕ) : Type 0 where
  pub invalid : ¬ (IsUtf8 bytes)
  pub valid_len : ℕ
  pub longest : IsValidUpTo bytes valid_len
  pub line_is : line ≡ line_at bytes valid_len

-- Behind these tokens, with which a document begins, none goes on with the next token, which begins here and may be the
-- end of the text; or no token fits where it should begin.
abbrev pub IsBadNext : Text → List Token → ℕ → Type 0
IsBadNext bytes front start =
    ((next : Token) × IsNextBehind bytes front next × (start ≡ next.start)
    × (¬ (BeginDocument (kinds (front ++ next ∷ [])))))
    ⊎ (HasNoneBehind bytes front × IsTokenStart bytes (place_behind 0 front) start)

-- as many tokens as begin a document, and the line of the next one
pub record IsBad (bytes : Text) (line : ℕ) : Type 0 where
  pub utf8 : IsUtf8 bytes
  pub front : List Token
  pub start : ℕ
  pub begins : BeginsWith bytes front
  pub goes_on : HaveNoEnd front
  pub sentence : BeginDocument (kinds front)
  pub bad : IsBadNext bytes front start
  pub line_is : line ≡ line_at bytes start

-- of these tokens this one, and none before it, is a use without a definition
pub record IsFirstUndefined (bytes : Text) (base : Option Text) (tokens : List Token) (why : Undefined)
    (use_at : Token) : Type 0 where
  pub front : List Token
  pub more : List Token
  pub leaves : List Leaf
  pub use_leaf : Leaf
  pub are : tokens ≡ front ++ use_at ∷ more
  pub before : AreLeaves bytes front leaves
  pub here : IsLeaf bytes use_at use_leaf
  pub defined : (says base leaves).undefined ≡ None
  pub undefined : (says base (leaves ++ use_leaf ∷ [])).undefined ≡ Some why

-- the bytes are a document with such a use, and the line of that token
pub record IsUndefined (bytes : Text) (base : Option Text) (why : Undefined) (line : ℕ) : Type 0 where
  pub utf8 : IsUtf8 bytes
  pub tokens : List Token
  pub use_at : Token
  pub are_tokens : AreTokens bytes tokens
  pub sentence : AreSentence tokens
  pub first : IsFirstUndefined bytes base tokens why use_at
  pub line_is : line ≡ line_at bytes use_at.start

-- the bytes are a document with more quads than there may be
pub record IsTooMany (bytes : Text) (base : Option Text) : Type 0 where
  pub labels : List Label
  pub statements : List Statement
  pub is : IsTriG bytes base labels statements
  pub many : MAX_QUADS < length statements

-- why the bytes are not read
abbrev pub IsCauseOf : Text → Option Text → TrigFault → Type 0
IsCauseOf bytes base (NotUtf8 line) = IsNotUtf8 bytes line
IsCauseOf bytes base (BadTrig line) = IsBad bytes line
IsCauseOf bytes base (UnknownPrefix line) = IsUndefined bytes base NoPrefix line
IsCauseOf bytes base (NoBase line) = IsUndefined bytes base HasNoBase line
IsCauseOf bytes base TooManyQuads = IsTooMany bytes base
IsCauseOf bytes base NoMemory = Unit {0}
