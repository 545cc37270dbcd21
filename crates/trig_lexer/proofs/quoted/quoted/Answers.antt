use Rattle.terminals.specs.declared.bodies.Quote.TheVariants.{Double, Single}
use Rattle.terminals.proofs.Outcomes.{IfNone_since}
use Rattle.trig_lexer.proofs.Quoting.{quoted_found, quoted_none}
use Rattle.trig_lexer.proofs.quoted.quoted.Goals as goal

pub returns-in-Some-clause-found : goal.returns-in-Some-clause-found
returns-in-Some-clause-found c = quoted_found Double c.args.text.now _ c.in-Some.ensures.found

pub returns-in_err-rest-clause-none : goal.returns-in_err-rest-clause-none
returns-in_err-rest-clause-none c = IfNone_since _ _ (quoted_none c.args.text.now c.in_default.ensures.none c.in_err-rest.ensures.none)

pub returns-clause-found : goal.returns-clause-found
returns-clause-found c = quoted_found Single c.args.text.now _ c.in_ok-rest.ensures.found
