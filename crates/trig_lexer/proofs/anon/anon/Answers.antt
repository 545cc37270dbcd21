use Rattle.terminals.proofs.Outcomes.{IfNone_since}
use Rattle.trig_lexer.proofs.Anonymous.{anon_found, anon_unclosed}
use Rattle.trig_lexer.proofs.anon.anon.Goals as goal

pub returns-in_err-rest-clause-none : goal.returns-in_err-rest-clause-none
returns-in_err-rest-clause-none c =
    IfNone_since _ _ (anon_unclosed c.args.text.now c.in_ok-inside.inside.now _ c.in_ok-inside.ensures.found c.after_gaps.ensures c.in_err-rest.ensures.none)

pub returns-clause-found : goal.returns-clause-found
returns-clause-found c =
    anon_found c.args.text.now c.in_ok-inside.inside.now _ c.in_ok-inside.ensures.found c.after_gaps.ensures _ c.in_ok-rest.ensures.found
