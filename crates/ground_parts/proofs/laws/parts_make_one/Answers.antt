use Rattle.ground_parts.proofs.Whole.{parts_make_one}
use Rattle.ground_parts.proofs.laws.parts_make_one.Goals as goal

pub returns : goal.returns
returns c = parts_make_one
