use Rattle.std.proofs.Common.{refl}
use Rattle.trig_grammar.specs.Table.{lower_cells, IsLower}
use Rattle.trig_grammar.proofs.machine.lower.Goals as goal

pub returns : goal.returns
unfolding IsLower lower_cells
returns c = refl
