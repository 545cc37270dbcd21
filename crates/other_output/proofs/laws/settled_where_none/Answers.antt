use Rattle.other_output.proofs.Telling.{settled_where_none}
use Rattle.other_output.proofs.laws.settled_where_none.Goals as goal

pub returns : goal.returns
returns c = settled_where_none
