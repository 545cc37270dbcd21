-- The terminals that N-Quads and TriG share (RDF 1.1 N-Quads, section 4; RDF 1.1 TriG, section 4.5).
use Rattle.std.specs.Prelude.{◌≡◌, ◌≤◌, ℕ, Bool, true, false, ◌||◌, ◌==◌, ◌⊎◌, List, [], ◌∷◌, ◌++◌, All, length, encode_utf8_all}
use Rattle.std.specs.Char.{is_ascii_digit, is_ascii_alphanumeric}
use Rattle.rdf_terms.specs.Vocabulary.{Text, In, IsLanguageTag, IsSubtag, behind_dashes}
use Rattle.char_tables.specs.Rows.{is_in}
use Rattle.char_tables.specs.Classes.{pn_chars_u_nquads, pn_chars_u_trig, pn_chars}
use Rattle.terminals.specs.Terminal.{Characters, TextBeginsWith}
use Rattle.terminals.specs.Spellings.{quote_mark, Spells, TextSpells}
use Rattle.terminals.specs.declared.bodies.Quote.{Quote}
use Rattle.terminals.specs.declared.bodies.Body.{Body}
use Rattle.terminals.specs.declared.bodies.Body.TheVariants.{Iri, Short}
use Rattle.terminals.specs.declared.runs.Spelling.{Spelling}
use Rattle.terminals.specs.declared.labels.Grammar.{Grammar}
use Rattle.terminals.specs.declared.labels.Grammar.TheVariants.{NQuads, TriG}

-- spelled characters between two marks
pub record IsBetween (open_mark close_mark : ℕ) (body : Body) (spelled value : Characters) : Type 0 where
  pub inner : Characters
  pub marks : spelled ≡ open_mark ∷ (inner ++ close_mark ∷ [])
  pub spells : Spells body inner value

-- IRIREF, between `<` and `>`
abbrev pub IriRef : Characters → Characters → Type 0
IriRef spelled value = IsBetween 60 62 Iri spelled value

-- STRING_LITERAL_QUOTE, and STRING_LITERAL_SINGLE_QUOTE of TriG, between two quotes
abbrev pub ShortString : Quote → Characters → Characters → Type 0
ShortString quote spelled value = IsBetween (quote_mark quote) (quote_mark quote) (Short quote) spelled value

-- LANGTAG: `@` and a language tag, which is its value
pub record LangTag (spelled value : Characters) : Type 0 where
  pub mark : spelled ≡ 64 ∷ value
  pub tag : IsLanguageTag value

-- the text begins with `-` and a subtag that goes as far as it can, and the rest follows; or with none
pub record BeginsWithSubtag (text rest : Text) : Type 0 where
  pub subtag : Text
  pub splits : text ≡ 45 ∷ (subtag ++ rest)
  pub is_subtag : IsSubtag subtag
  pub ends : (c : ℕ) (more : Text) → rest ≡ c ∷ more → is_ascii_alphanumeric c ≡ false

abbrev pub BeginsWithNoSubtag : Text → Type 0
BeginsWithNoSubtag text = (subtag rest : Text) → IsSubtag subtag → ¬ (text ≡ 45 ∷ (subtag ++ rest))

-- the text begins with as many subtags as it can, and the rest follows
pub record BeginsWithSubtags (text rest : Text) : Type 0 where
  pub subtags : List Text
  pub splits : text ≡ behind_dashes subtags ++ rest
  pub are_subtags : All IsSubtag subtags
  pub longest : (others : List Text) (other_rest : Text) → text ≡ behind_dashes others ++ other_rest
      → All IsSubtag others → length (behind_dashes others) ≤ length (behind_dashes subtags)

-- PN_CHARS_U or a digit, by which a label begins
abbrev pub begins_label : Grammar → ℕ → Bool
begins_label NQuads c = is_in pn_chars_u_nquads c || is_ascii_digit c
begins_label TriG c = is_in pn_chars_u_trig c || is_ascii_digit c

-- PN_CHARS, by which it ends: in N-Quads it has `:`
abbrev pub ends_label : Grammar → ℕ → Bool
ends_label NQuads c = is_in pn_chars c || c == 58
ends_label TriG c = is_in pn_chars c

-- nothing, or PN_CHARS and dots with PN_CHARS at the end
abbrev pub GoesOnAsLabel : Grammar → Characters → Type 0
GoesOnAsLabel grammar more = (more ≡ []) ⊎ ((inner : Characters) × (last : ℕ) × (more ≡ inner ++ last ∷ [])
    × All (λ c. (ends_label grammar c || c == 46) ≡ true) inner × (ends_label grammar last ≡ true))

-- the text begins with the longest such front, and the rest follows
pub record GoesOnAsLabelIn (grammar : Grammar) (text rest : Text) : Type 0 where
  pub more : Characters
  pub rest_characters : Characters
  pub text_is : text ≡ encode_utf8_all more ++ rest
  pub rest_is : rest ≡ encode_utf8_all rest_characters
  pub fits : GoesOnAsLabel grammar more
  pub longest : (other other_rest : Characters) → more ++ rest_characters ≡ other ++ other_rest
      → GoesOnAsLabel grammar other → length other ≤ length more

-- BLANK_NODE_LABEL: `_:` and the label, which is its value
pub record BlankNodeLabel (grammar : Grammar) (spelled value : Characters) : Type 0 where
  pub first : ℕ
  pub more : Characters
  pub mark : spelled ≡ 95 ∷ 58 ∷ value
  pub label : value ≡ first ∷ more
  pub begins : begins_label grammar first ≡ true
  pub goes_on : GoesOnAsLabel grammar more

-- the text begins with the terminal, whose value is what is spelled, and the rest follows
pub record ReadsSpelling (terminal : Characters → Characters → Type 0) (text : Text) (spelling : Spelling)
    (rest : Text) : Type 0 where
  pub value : Text
  pub begins : TextBeginsWith terminal text value rest
  pub spells : TextSpells spelling.body spelling.text.now value
  pub plain : spelling.has_escapes ≡ false → spelling.text.now ≡ value
  pub escaped : spelling.has_escapes ≡ true → In 92 spells.spelled_characters
