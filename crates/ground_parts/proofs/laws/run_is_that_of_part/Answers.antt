use Rattle.ground_parts.proofs.Whole.{run_is_that_of_part}
use Rattle.ground_parts.proofs.laws.run_is_that_of_part.Goals as goal

pub returns : goal.returns
returns c = run_is_that_of_part
