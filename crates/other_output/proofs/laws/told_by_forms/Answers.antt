use Rattle.other_output.proofs.Telling.{told_by_forms}
use Rattle.other_output.proofs.laws.told_by_forms.Goals as goal

pub returns : goal.returns
returns c = told_by_forms
