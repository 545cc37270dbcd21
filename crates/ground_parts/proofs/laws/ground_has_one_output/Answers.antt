use Rattle.ground_parts.proofs.GroundTexts.{ground_has_one_output}
use Rattle.ground_parts.proofs.laws.ground_has_one_output.Goals as goal

pub returns : goal.returns
returns c = ground_has_one_output
