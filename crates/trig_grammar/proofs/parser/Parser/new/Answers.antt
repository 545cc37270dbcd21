use Rattle.std.proofs.Common.{reverse}
use Rattle.trig_grammar.proofs.Progress.{begun_behind}
use Rattle.trig_grammar.proofs.parser.Parser.new.Goals as goal

pub returns : goal.returns
returns c = begun_behind (reverse c.in_ok-begun.field-0.items) c.in_ok-begun.ensures
