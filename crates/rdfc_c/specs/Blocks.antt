-- The words of a command in one block of bytes.
use Rattle.std.specs.Prelude.{◌≡◌, List, [], ◌∷◌, ◌++◌, flat_map, IsUtf8}
use Rattle.rdf_terms.specs.Vocabulary.{Text, In}
use Rattle.rdfc_cli.specs.Words.{Command, Given, IsCommand}

-- the word, and the byte that ends it
abbrev pub ended : Text → Text
ended word = word ++ 0 ∷ []

-- the block is UTF-8 and has these words, each ended by a byte 0, which stands in none of them
pub record AreWords (block : Text) (words : List Text) : Type 0 where
  pub utf8 : IsUtf8 block
  pub spelled : block ≡ flat_map ended words
  pub whole : (word : Text) → In word words → ¬ (In 0 word)

-- the words of the block are this command with these options
pub record Spells (block : Text) (command : Command) (options : List Given) : Type 0 where
  pub words : List Text
  pub are_words : AreWords block words
  pub is_command : IsCommand words command options

abbrev pub SpellsNothing : Text → Type 0
SpellsNothing block = (command : Command) (options : List Given) → ¬ (Spells block command options)
