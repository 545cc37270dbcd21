use Rattle.canonical_writer.proofs.NameTexts.{numbered_name-injective}
use Rattle.canonical_writer.proofs.laws.names_of_numbers_differ.Goals as goal

pub returns : goal.returns
returns c = numbered_name-injective
