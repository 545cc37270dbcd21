-- Words and marks of the grammar (RDF 1.1 TriG, section 4.5).
use Rattle.std.specs.Prelude.{◌≡◌, ◌≢◌, ℕ, Bool, false, List, [], ◌∷◌, map, codes}
use Rattle.std.specs.Char.{to_ascii_lowercase}
use Rattle.terminals.specs.Terminal.{Characters}
use Rattle.terminals.specs.Terminals.{LangTag as Tag}
use Rattle.trig_lexer.specs.WhiteSpace.{IsSkipped}
use Rattle.trig_lexer.specs.declared.kind.Kind.{Kind}
use Rattle.trig_lexer.specs.declared.kind.Kind.TheVariants.{Dot, Semicolon, Comma, LeftBrace, RightBrace, LeftBracket, RightBracket, LeftParen, RightParen}

-- the same but for the case of ASCII letters
abbrev pub IsInAnyCase : Characters → Characters → Type 0
IsInAnyCase word spelled = map to_ascii_lowercase spelled ≡ map to_ascii_lowercase word

-- spelled characters have some value
abbrev pub HasValue : (Characters → Characters → Type 0) → Characters → Type 0
HasValue terminal spelled = (value : Characters) × terminal spelled value

-- `@prefix`, where it is a word and no language tag: no string stands before it
abbrev pub IsAtPrefix : Bool → Characters → Type 0
IsAtPrefix after_string spelled = (after_string ≡ false) × (spelled ≡ codes "@prefix")

-- `@base` likewise
abbrev pub IsAtBase : Bool → Characters → Type 0
IsAtBase after_string spelled = (after_string ≡ false) × (spelled ≡ codes "@base")

-- LANGTAG, where it is none of these words
abbrev pub IsLangTag : Bool → Characters → Type 0
IsLangTag after_string spelled =
    HasValue Tag spelled × (after_string ≡ false → (spelled ≢ codes "@prefix") × (spelled ≢ codes "@base"))

-- ANON: `[`, white space and comments, and `]`
abbrev pub IsAnon : Characters → Type 0
IsAnon spelled = (inside : Characters) × (spelled ≡ 91 ∷ inside) × IsSkipped inside (93 ∷ [])

-- marks of one character
abbrev pub marks : List (ℕ × Kind)
marks =
    (46, Dot) ∷ (59, Semicolon) ∷ (44, Comma) ∷ (123, LeftBrace) ∷ (125, RightBrace) ∷ (91, LeftBracket) ∷
    (93, RightBracket) ∷ (40, LeftParen) ∷ (41, RightParen) ∷ []
