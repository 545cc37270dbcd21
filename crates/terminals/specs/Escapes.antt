-- Escapes, by which characters stand for another one (RDF 1.1 N-Quads, section 4). All that spells them is ASCII.
use Rattle.std.specs.Prelude.{◌≡◌, ℕ, true, ◌⊎◌, List, [], ◌∷◌, ◌++◌, All, length}
use Rattle.std.specs.Char.{IsScalar}
use Rattle.std.specs.Str.Parse.{digits_value}
use Rattle.rdf_terms.specs.Lists.{In}
use Rattle.char_tables.specs.Rows.{is_in}
use Rattle.char_tables.specs.Classes.{hex}
use Rattle.terminals.specs.Terminal.{Characters}

-- so many HEX write the number of the character, which must be a Unicode scalar value
pub record IsNumberOf (count : ℕ) (digits : Characters) (c : ℕ) : Type 0 where
  pub count_is : length digits ≡ count
  pub all_hex : All (λ d. is_in hex d ≡ true) digits
  pub number : c ≡ digits_value 16 digits
  pub scalar : IsScalar c

-- UCHAR: `\u` and four HEX, or `\U` and eight, for the character with that number
pub record IsUchar (spelled : Characters) (c : ℕ) : Type 0 where
  pub letter : ℕ
  pub digits : Characters
  pub spelling : spelled ≡ 92 ∷ letter ∷ digits
  pub named : ((letter ≡ 117) × IsNumberOf 4 digits c) ⊎ ((letter ≡ 85) × IsNumberOf 8 digits c)

-- the letter of an ECHAR and the character that it means: HT, BS, LF, CR, FF, `"`, `'` and `\`, for `t`, `b`, `n`, `r`,
-- `f`, `"`, `'` and `\`
abbrev pub echar_meanings : List (ℕ × ℕ)
echar_meanings = (116, 9) ∷ (98, 8) ∷ (110, 10) ∷ (114, 13) ∷ (102, 12) ∷ (34, 34) ∷ (39, 39) ∷ (92, 92) ∷ []

-- ECHAR: `\` and one of these letters
pub record IsEchar (spelled : Characters) (c : ℕ) : Type 0 where
  pub letter : ℕ
  pub spelling : spelled ≡ 92 ∷ letter ∷ []
  pub meaning : In (letter, c) echar_meanings

-- the text begins with such a spelling of the character, and the rest follows; or with none
pub record BeginsWithOne (spells : Characters → ℕ → Type 0) (text : Characters) (c : ℕ)
    (rest : Characters) : Type 0 where
  pub spelled : Characters
  pub splits : text ≡ spelled ++ rest
  pub fits : spells spelled c

abbrev pub BeginsWithNoOne : (Characters → ℕ → Type 0) → Characters → Type 0
BeginsWithNoOne spells text =
    (spelled : Characters) (c : ℕ) (rest : Characters) → text ≡ spelled ++ rest → ¬ (spells spelled c)
