use Rattle.canon_core.proofs.TwoOutputs.{shared_output}
use Rattle.canon_core.proofs.laws.shared_output.Goals as goal

pub returns : goal.returns
returns c = shared_output
