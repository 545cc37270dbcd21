use Rattle.canonical_writer.proofs.TextTells.{dataset_of_text}
use Rattle.canonical_writer.proofs.laws.text_determines_dataset.Goals as goal

pub returns : goal.returns
returns c = dataset_of_text
