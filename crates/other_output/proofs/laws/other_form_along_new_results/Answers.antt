use Rattle.other_output.proofs.AlongNewResults.{other_form_along_new_results}
use Rattle.other_output.proofs.laws.other_form_along_new_results.Goals as goal

pub returns : goal.returns
returns c = other_form_along_new_results
