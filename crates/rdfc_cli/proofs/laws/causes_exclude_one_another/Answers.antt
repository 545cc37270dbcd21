use Rattle.rdfc_cli.proofs.Headlines.{causes_exclude}
use Rattle.rdfc_cli.proofs.laws.causes_exclude_one_another.Goals as goal

pub returns : goal.returns
returns c = causes_exclude
