use Rattle.nquads_reader.proofs.Causes.{causes_same}
use Rattle.nquads_reader.proofs.laws.cause_is_determined.Goals as goal

pub returns : goal.returns
returns c bytes cause other h k memory wanted = causes_same bytes cause other h k memory wanted
