use Rattle.nquads_reader.proofs.CanonicalLines.{canonical_lines_no_cause}
use Rattle.nquads_reader.proofs.laws.canonical_lines_have_no_cause.Goals as goal

pub returns : goal.returns
returns c = canonical_lines_no_cause
