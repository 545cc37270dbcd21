use Rattle.other_output.proofs.Telling.{known_along_new_results}
use Rattle.other_output.proofs.laws.known_along_new_results.Goals as goal

pub returns : goal.returns
returns c = known_along_new_results
