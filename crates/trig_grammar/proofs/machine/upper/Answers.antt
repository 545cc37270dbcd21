use Rattle.std.proofs.Common.{refl}
use Rattle.trig_grammar.specs.Table.{upper_cells, IsUpper}
use Rattle.trig_grammar.proofs.machine.upper.Goals as goal

pub returns : goal.returns
unfolding IsUpper upper_cells
returns c = refl
