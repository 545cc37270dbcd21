use Rattle.trig_reader.proofs.Causes.{no_cause}
use Rattle.trig_reader.proofs.laws.document_within_the_limit_has_no_cause.Goals as goal

pub returns : goal.returns
returns c bytes base labels statements read within cause is = no_cause bytes base labels statements read within cause is
