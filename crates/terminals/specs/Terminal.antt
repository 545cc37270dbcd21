-- What it means that a text begins with a terminal of a grammar.
use Rattle.std.specs.Prelude.{◌≡◌, ◌≤◌, ℕ, List, ◌++◌, length, encode_utf8_all}
use Rattle.rdf_terms.specs.Lists.{Text}

-- characters, by their code points
abbrev pub Characters : Type 0
Characters = List ℕ

-- A terminal is a relation: which characters spell it, and which characters are the value that they have.

-- The text begins with the terminal. A terminal is the longest one that fits at its place.
pub record BeginsWith (terminal : Characters → Characters → Type 0) (text value rest : Characters) : Type 0 where
  pub spelled : Characters
  pub splits : text ≡ spelled ++ rest
  pub fits : terminal spelled value
  pub longest : (other other_value other_rest : Characters) → text ≡ other ++ other_rest → terminal other other_value
      → length other ≤ length spelled

-- no front of the text is the terminal
abbrev pub BeginsWithNone : (Characters → Characters → Type 0) → Characters → Type 0
BeginsWithNone terminal text = (spelled value rest : Characters) → text ≡ spelled ++ rest → ¬ (terminal spelled value)

-- the same of texts in UTF-8
pub record TextBeginsWith (terminal : Characters → Characters → Type 0) (text value rest : Text) : Type 0 where
  pub text_characters : Characters
  pub value_characters : Characters
  pub rest_characters : Characters
  pub text_is : text ≡ encode_utf8_all text_characters
  pub value_is : value ≡ encode_utf8_all value_characters
  pub rest_is : rest ≡ encode_utf8_all rest_characters
  pub begins : BeginsWith terminal text_characters value_characters rest_characters

abbrev pub TextBeginsWithNone : (Characters → Characters → Type 0) → Text → Type 0
TextBeginsWithNone terminal text =
    (characters : Characters) → text ≡ encode_utf8_all characters → BeginsWithNone terminal characters
