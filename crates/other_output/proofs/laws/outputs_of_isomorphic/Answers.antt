use Rattle.other_output.proofs.Outputs.{outputs_of_isomorphic}
use Rattle.other_output.proofs.laws.outputs_of_isomorphic.Goals as goal

pub returns : goal.returns
returns c = outputs_of_isomorphic
