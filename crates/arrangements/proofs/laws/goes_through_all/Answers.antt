use Rattle.arrangements.proofs.Sequence.{goes_through_all}
use Rattle.arrangements.proofs.laws.goes_through_all.Goals as goal

pub returns : goal.returns
returns c = goes_through_all
