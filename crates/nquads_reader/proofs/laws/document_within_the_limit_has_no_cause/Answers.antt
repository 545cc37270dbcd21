use Rattle.nquads_reader.proofs.Causes.{no_cause}
use Rattle.nquads_reader.proofs.laws.document_within_the_limit_has_no_cause.Goals as goal

pub returns : goal.returns
returns c bytes labels statements h within cause k = no_cause bytes labels statements h within cause k
