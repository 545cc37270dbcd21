use Rattle.trig_lexer.proofs.OneToken.{token_or_none}
use Rattle.trig_lexer.proofs.laws.token_fits_or_none_does.Goals as goal

pub returns : goal.returns
returns c = token_or_none
