use Rattle.other_output.proofs.OneForm.{one_limit_along}
use Rattle.other_output.proofs.laws.one_limit_along.Goals as goal

pub returns : goal.returns
returns c = one_limit_along
