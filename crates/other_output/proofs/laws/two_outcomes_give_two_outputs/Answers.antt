use Rattle.other_output.proofs.EitherWay.{two_outcomes_give_two_outputs}
use Rattle.other_output.proofs.laws.two_outcomes_give_two_outputs.Goals as goal

pub returns : goal.returns
returns c = two_outcomes_give_two_outputs
