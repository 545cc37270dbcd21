use Rattle.trig_lexer.proofs.Naming.{local_found, local_none}
use Rattle.trig_lexer.proofs.name.name.Goals as goal

pub returns-in-Some-clause-found : goal.returns-in-Some-clause-found
returns-in-Some-clause-found c = local_found c.args.text.now _ c.in_ok-behind.ensures.found _ c.in-Some.ensures.found

pub returns-in-None-clause-found : goal.returns-in-None-clause-found
returns-in-None-clause-found c = local_none c.args.text.now _ c.in_ok-behind.ensures.found c.in-None.ensures.none
