use Rattle.trig_lexer.proofs.OneToken.{one_token}
use Rattle.trig_lexer.proofs.laws.token_is_determined.Goals as goal

pub returns : goal.returns
returns c = one_token
