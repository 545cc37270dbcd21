use Rattle.other_output.proofs.Telling.{one_openness}
use Rattle.other_output.proofs.laws.one_openness.Goals as goal

pub returns : goal.returns
returns c = one_openness
