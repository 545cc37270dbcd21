use Rattle.trig_grammar.proofs.Halves.{is_table}
use Rattle.trig_grammar.proofs.machine.table.Goals as goal

pub returns : goal.returns
returns c = is_table c.upper-upper.result c.lower-lower.result c.new.result.cells c.upper-upper.ensures c.lower-lower.ensures c.new.ensures
