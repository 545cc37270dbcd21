use Rattle.trig_grammar.proofs.Firsts.{first_is_right}
use Rattle.trig_grammar.proofs.laws.first_is_right.Goals as goal

pub returns : goal.returns
returns c = first_is_right
