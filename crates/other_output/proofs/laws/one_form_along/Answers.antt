use Rattle.other_output.proofs.OneForm.{one_form_along}
use Rattle.other_output.proofs.laws.one_form_along.Goals as goal

pub returns : goal.returns
returns c = one_form_along
