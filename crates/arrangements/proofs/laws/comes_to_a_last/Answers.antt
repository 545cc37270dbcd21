use Rattle.arrangements.proofs.Ending.{comes_to_a_last}
use Rattle.arrangements.proofs.laws.comes_to_a_last.Goals as goal

pub returns : goal.returns
returns c = comes_to_a_last
