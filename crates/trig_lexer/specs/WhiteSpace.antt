-- White space and comments, which may stand before every token (RDF 1.1 TriG, sections 4.1 and 4.2).
use Rattle.std.specs.Prelude.{◌≡◌, ℕ, Bool, true, false, ◌||◌, ◌==◌, ◌⊎◌, [], ◌∷◌, ◌++◌, All}
use Rattle.terminals.specs.Terminal.{Characters}

-- LF and CR
abbrev pub ends_line : ℕ → Bool
ends_line c = c == 10 || c == 13

-- WS: space, HT, LF and CR
abbrev pub is_white_space : ℕ → Bool
is_white_space c = c == 32 || (c == 9 || ends_line c)

-- the end of a line is here: the next CR or LF, or the end of the text
abbrev pub IsAtLineEnd : Characters → Type 0
IsAtLineEnd [] = Unit {0}
IsAtLineEnd (c ∷ more) = ends_line c ≡ true

-- the rest is what follows the characters up to the end of the line
pub record IsLineThen (text rest : Characters) : Type 0 where
  pub line : Characters
  pub splits : text ≡ line ++ rest
  pub within : All (λ c. ends_line c ≡ false) line
  pub ends : IsAtLineEnd rest

-- a comment and then the rest: `#` and all characters up to the end of the line
abbrev pub IsCommentThen : Characters → Characters → Type 0
IsCommentThen text rest = (more : Characters) × (text ≡ 35 ∷ more) × IsLineThen more rest

-- a character of white space and then the rest
abbrev pub IsWhiteThen : Characters → Characters → Type 0
IsWhiteThen text rest = (c : ℕ) × (text ≡ c ∷ rest) × (is_white_space c ≡ true)

-- either of them and then the rest
abbrev pub IsGapThen : Characters → Characters → Type 0
IsGapThen text rest = IsWhiteThen text rest ⊎ IsCommentThen text rest

-- no white space and no comment is at the front of the text
abbrev pub BeginsWithNoGap : Characters → Type 0
BeginsWithNoGap text = (rest : Characters) → ¬ (IsGapThen text rest)

-- some white space and comments, one behind the other, and then the rest
pub data AreGapsThen : Characters → Characters → Type 0 where
  no_gap : {text : Characters} → AreGapsThen text text
  one_gap : {text next rest : Characters} → IsGapThen text next → AreGapsThen next rest → AreGapsThen text rest

-- white space and comments, as far as they go, and then the rest
pub record IsSkipped (text rest : Characters) : Type 0 where
  pub gaps : AreGapsThen text rest
  pub ends : BeginsWithNoGap rest
