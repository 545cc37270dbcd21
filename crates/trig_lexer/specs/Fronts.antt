-- Fronts of a text that have a shape.
use Rattle.std.specs.Prelude.{◌≡◌, ◌≤◌, ◌++◌, length, encode_utf8_all}
use Rattle.rdf_terms.specs.Lists.{Text}
use Rattle.terminals.specs.Terminal.{Characters}

-- the text begins with what has the shape, and the rest follows; or no front of it has the shape
pub record BeginsWithShape (shape : Characters → Type 0) (text rest : Characters) : Type 0 where
  pub front : Characters
  pub splits : text ≡ front ++ rest
  pub fits : shape front

abbrev pub BeginsWithNoShape : (Characters → Type 0) → Characters → Type 0
BeginsWithNoShape shape text = (front rest : Characters) → text ≡ front ++ rest → ¬ (shape front)

-- and no longer front has it
pub record BeginsWithLongestShape (shape : Characters → Type 0) (text rest : Characters) : Type 0 where
  pub front : Characters
  pub splits : text ≡ front ++ rest
  pub fits : shape front
  pub longest : (other other_rest : Characters) → text ≡ other ++ other_rest → shape other → length other ≤ length front

-- the same of texts in UTF-8
pub record TextReads (relation : Characters → Characters → Type 0) (text rest : Text) : Type 0 where
  pub text_characters : Characters
  pub rest_characters : Characters
  pub text_is : text ≡ encode_utf8_all text_characters
  pub rest_is : rest ≡ encode_utf8_all rest_characters
  pub reads : relation text_characters rest_characters

abbrev pub TextReadsNone : (Characters → Type 0) → Text → Type 0
TextReadsNone none text = (characters : Characters) → text ≡ encode_utf8_all characters → none characters
