-- The tokens of a text, one behind the other (RDF 1.1 TriG, section 4.5), and whether a document has them.
use Rattle.std.specs.Prelude.{◌≡◌, ◌≢◌, ℕ, Bool, true, false, List, [], ◌∷◌, ◌++◌, map, All}
use Rattle.rdf_terms.specs.Lists.{Text}
use Rattle.trig_lexer.specs.declared.kind.Kind.{Kind}
use Rattle.trig_lexer.specs.declared.kind.Kind.TheVariants.{Quoted, End}
use Rattle.trig_lexer.specs.declared.token.Token.{Token}
use Rattle.trig_lexer.specs.Tokens.{IsTokenAt, HasNoTokenAt}
use Rattle.trig_grammar.specs.Published.{IsPublishedSentence}

abbrev pub is_string : Kind → Bool
is_string Quoted = true
is_string kind = false

-- ---- one token behind the other

-- from the place on, which is behind a string or not, the text has these tokens
abbrev pub Follow : Text → ℕ → Bool → List Token → Type 0
Follow text place after_string [] = Unit {0}
Follow text place after_string (token ∷ tokens) =
    IsTokenAt after_string text place token × Follow text token.end (is_string token.kind) tokens

-- the place behind the tokens, and whether it is behind a string
abbrev pub place_behind : ℕ → List Token → ℕ
place_behind place [] = place
place_behind place (token ∷ tokens) = place_behind token.end tokens

abbrev pub is_behind_string : Bool → List Token → Bool
is_behind_string after_string [] = after_string
is_behind_string after_string (token ∷ tokens) = is_behind_string (is_string token.kind) tokens

-- the text begins with these tokens
abbrev pub BeginsWith : Text → List Token → Type 0
BeginsWith text tokens = Follow text 0 false tokens

-- behind these tokens this one is next
abbrev pub IsNextBehind : Text → List Token → Token → Type 0
IsNextBehind text tokens next = IsTokenAt (is_behind_string false tokens) text (place_behind 0 tokens) next

-- behind them the text goes on, and no token fits
abbrev pub HasNoneBehind : Text → List Token → Type 0
HasNoneBehind text tokens = HasNoTokenAt (is_behind_string false tokens) text (place_behind 0 tokens)

-- the end of the text is none of these
abbrev pub HaveNoEnd : List Token → Type 0
HaveNoEnd tokens = All (λ (token : Token). token.kind ≢ End) tokens

-- The tokens of the text: all of it is cut into them, and its end is the last one.
pub record AreTokens (text : Text) (tokens : List Token) : Type 0 where
  pub front : List Token
  pub last : Token
  pub are : tokens ≡ front ++ last ∷ []
  pub begins : BeginsWith text tokens
  pub goes_on : HaveNoEnd front
  pub ends : last.kind ≡ End

-- ---- by the grammar

abbrev pub kinds : List Token → List Kind
kinds tokens = map (λ (token : Token). token.kind) tokens

-- the tokens are those of a document
abbrev pub AreSentence : List Token → Type 0
AreSentence tokens = IsPublishedSentence (kinds tokens)

-- some document begins with tokens of these kinds
abbrev pub BeginDocument : List Kind → Type 0
BeginDocument front = (more : List Kind) × IsPublishedSentence (front ++ more)
