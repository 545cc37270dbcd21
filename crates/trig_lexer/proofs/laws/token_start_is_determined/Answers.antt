use Rattle.trig_lexer.proofs.OneToken.{one_start}
use Rattle.trig_lexer.proofs.laws.token_start_is_determined.Goals as goal

pub returns : goal.returns
returns c = one_start
