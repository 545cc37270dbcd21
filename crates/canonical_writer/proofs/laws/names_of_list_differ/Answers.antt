use Rattle.canonical_writer.proofs.NameTexts.{issued_name-injective}
use Rattle.canonical_writer.proofs.laws.names_of_list_differ.Goals as goal

pub returns : goal.returns
returns c = issued_name-injective
