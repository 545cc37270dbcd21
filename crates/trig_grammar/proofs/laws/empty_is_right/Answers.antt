use Rattle.trig_grammar.proofs.Firsts.{empty_is_right}
use Rattle.trig_grammar.proofs.laws.empty_is_right.Goals as goal

pub returns : goal.returns
returns c = empty_is_right
