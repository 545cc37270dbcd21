use Rattle.canonical_writer.proofs.LineTexts.{same_line}
use Rattle.canonical_writer.proofs.laws.line_determines_statement.Goals as goal

pub returns : goal.returns
returns c ν ν' nodes nodes' st su plain plain' v w e = same_line ν ν' nodes nodes' plain plain' st su v w e
