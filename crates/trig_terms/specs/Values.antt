-- How the values of tokens are found: by what spells them, where all of a text is one token.
use Rattle.std.specs.Prelude.{◌≡◌, false, encode_utf8_all}
use Rattle.rdf_terms.specs.Lists.{Text}
use Rattle.terminals.specs.Terminal.{Characters}
use Rattle.terminals.specs.Spellings.{TextSpells}
use Rattle.terminals.specs.declared.bodies.Quote.{Quote}
use Rattle.terminals.specs.declared.runs.Spelling.{Spelling}
use Rattle.trig_lexer.specs.Strings.{IsLongString}
use Rattle.trig_terms.specs.Leaves.{HasValue, Means}

-- all of the text is the terminal, whose value is what is spelled
pub record IsWhole (terminal : Characters → Characters → Type 0) (text : Text) (spelling : Spelling) : Type 0 where
  pub value : Text
  pub has_value : HasValue terminal text value
  pub spells : TextSpells spelling.body spelling.text.now value
  pub plain : spelling.has_escapes ≡ false → spelling.text.now ≡ value

-- all of the text is a long string
pub record IsWholeLong (quote : Quote) (text : Text) : Type 0 where
  pub spelled : Characters
  pub text_is : text ≡ encode_utf8_all spelled
  pub is_string : IsLongString quote spelled

-- what stands between the marks of a long string means these characters
pub record TextMeans (quote : Quote) (inside value : Text) : Type 0 where
  pub inside_characters : Characters
  pub value_characters : Characters
  pub inside_is : inside ≡ encode_utf8_all inside_characters
  pub value_is : value ≡ encode_utf8_all value_characters
  pub means : Means quote inside_characters value_characters
