use Rattle.terminals.proofs.Outcomes.{IfNone_since}
use Rattle.trig_lexer.proofs.Quoting.{long_found, short_found, quoted_by_none}
use Rattle.trig_lexer.proofs.quoted.quoted_by.Goals as goal

pub returns-in-Some-clause-found : goal.returns-in-Some-clause-found
returns-in-Some-clause-found c = long_found c.args.quote c.args.text.now _ c.in-Some.ensures.found

pub returns-in_err-rest-clause-none : goal.returns-in_err-rest-clause-none
returns-in_err-rest-clause-none c = IfNone_since _ _ (quoted_by_none c.args.quote c.args.text.now c.in_default.ensures.none c.in_err-rest.ensures.none)

pub returns-clause-found : goal.returns-clause-found
returns-clause-found c = short_found c.args.quote c.args.text.now _ _ c.in_default.ensures.none c.in_ok-rest.ensures.found
