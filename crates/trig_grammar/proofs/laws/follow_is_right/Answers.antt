use Rattle.trig_grammar.proofs.Follows.{follow_is_right}
use Rattle.trig_grammar.proofs.laws.follow_is_right.Goals as goal

pub returns : goal.returns
returns c = follow_is_right
