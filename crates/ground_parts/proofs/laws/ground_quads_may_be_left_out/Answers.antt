use Rattle.ground_parts.proofs.Ground.{ground_quads_may_be_left_out}
use Rattle.ground_parts.proofs.laws.ground_quads_may_be_left_out.Goals as goal

pub returns : goal.returns
returns c = ground_quads_may_be_left_out
