use Rattle.canon_core.proofs.TwoOutputs.{unjoined_gives_two_outputs}
use Rattle.canon_core.proofs.laws.unjoined_gives_two_outputs.Goals as goal

pub returns : goal.returns
returns c = unjoined_gives_two_outputs
