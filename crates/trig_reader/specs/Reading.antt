-- How what is held while a text is read stands for the tokens that were taken.
use Rattle.std.specs.Prelude.{◌≡◌, ◌≢◌, ◌≤◌, ℕ, List, Option, Some, None}
use Rattle.std.specs.Str.{IsCharBoundary}
use Rattle.rdf_terms.specs.Vocabulary.{Text, Document}
use Rattle.trig_lexer.specs.declared.kind.Kind.TheVariants.{End}
use Rattle.trig_lexer.specs.declared.token.Token.{Token}
use Rattle.trig_grammar.specs.Stack.{IsBehind}
use Rattle.trig_terms.specs.declared.leaf.Leaf.{Leaf}
use Rattle.trig_terms.specs.Leaves.{IsSpelled, bytes_of}
use Rattle.trig_terms.specs.Meaning.{Undefined, begin, says}
use Rattle.trig_builder.specs.Building.{IsReady, Builds}
use Rattle.trig_builder.specs.Telling.{Drafts}
use Rattle.trig_builder.specs.declared.builder.Builder.{Builder}
use Rattle.trig_builder.specs.declared.builder.Missing.{Missing}
use Rattle.trig_builder.specs.declared.builder.Missing.TheVariants.{Prefix, Base}
use Rattle.trig_reader.specs.Tokens.{BeginsWith, IsNextBehind, HaveNoEnd, AreTokens, kinds, AreSentence}
use Rattle.trig_reader.specs.Document.{AreLeaves, IsFirstUndefined}
use Rattle.trig_reader.specs.declared.fault.TrigFault.{TrigFault}
use Rattle.trig_reader.specs.declared.fault.TrigFault.TheVariants.{UnknownPrefix, NoBase}
use Rattle.trig_reader.specs.declared.reading.Reading.{Reading}

-- the text can be cut at both ends of the token, and what stands between them spells it
pub record IsCut (text : Text) (token : Token) : Type 0 where
  pub starts : IsCharBoundary text token.start
  pub ends : IsCharBoundary text token.end
  pub ordered : token.start ≤ token.end
  pub spelled : token.kind ≢ End → IsSpelled token.kind (bytes_of text token)

-- of what the tokens say, the place is that of the first use without a definition, if there is one
pub record IsUseAt (text : Text) (base : Option Text) (tokens : List Token) (why : Undefined) (place : ℕ) : Type 0 where
  pub use_at : Token
  pub first : IsFirstUndefined text base tokens why use_at
  pub place_is : place ≡ use_at.start

-- the builder holds what these tokens say
pub record HasTold (text : Text) (base : Option Text) (tokens : List Token) (builder : Builder)
    (last_told : ℕ) : Type 0 where
  pub leaves : List Leaf
  pub are_leaves : AreLeaves text tokens leaves
  pub builds : Builds builder (says base leaves)
  pub use_at : (why : Undefined) → (says base leaves).undefined ≡ Some why → IsUseAt text base tokens why last_told

-- The text begins with these tokens, and a document begins with them; they were taken since no token was, and what they
-- say is held, whatever base there was.
pub record HasTaken (text : Text) (first : Reading) (tokens : List Token) (reading : Reading) : Type 0 where
  pub begins : BeginsWith text tokens
  pub behind : IsBehind (kinds tokens) reading.parser
  pub ready : IsReady reading.builder
  pub told : (base : Option Text) → Builds first.builder (begin base)
      → HasTold text base tokens reading.builder reading.last_told

-- this token is the next one behind those that were taken
pub record IsAtNext (text : Text) (reading : Reading) (token : Token) : Type 0 where
  pub first : Reading
  pub tokens : List Token
  pub taken : HasTaken text first tokens reading
  pub no_end : HaveNoEnd tokens
  pub next : IsNextBehind text tokens token
  pub cut : IsCut text token

-- all tokens of the text were taken, and they are those of a document
pub record HasTakenAll (text : Text) (first reading : Reading) : Type 0 where
  pub tokens : List Token
  pub are_tokens : AreTokens text tokens
  pub sentence : AreSentence tokens
  pub told : (base : Option Text) → Builds first.builder (begin base)
      → HasTold text base tokens reading.builder reading.last_told

-- the text is a document, each of whose uses has its definition, and the draft holds what it says
pub record IsDraftOf (text : Text) (base : Option Text) (draft : Document) : Type 0 where
  pub tokens : List Token
  pub leaves : List Leaf
  pub are_tokens : AreTokens text tokens
  pub sentence : AreSentence tokens
  pub are_leaves : AreLeaves text tokens leaves
  pub defined : (says base leaves).undefined ≡ None
  pub drafts : Drafts draft (says base leaves).told

-- the fault of a use in this line that has no definition
abbrev pub fault_at : Missing → ℕ → TrigFault
fault_at Prefix line = UnknownPrefix line
fault_at Base line = NoBase line

-- where the last token begins that was told, once this one is: the builder tells none behind a use without a definition
abbrev pub place_told : Option Missing → ℕ → ℕ → ℕ
place_told None last start = start
place_told (Some why) last start = last
