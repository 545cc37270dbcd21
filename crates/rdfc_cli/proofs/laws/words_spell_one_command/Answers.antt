use Rattle.rdfc_cli.proofs.CommandWords.{same_command_of_words}
use Rattle.rdfc_cli.proofs.laws.words_spell_one_command.Goals as goal

pub returns : goal.returns
returns c = same_command_of_words
