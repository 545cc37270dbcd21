use Rattle.terminals.proofs.Marks.{between_found, between_unclosed}
use Rattle.terminals.proofs.Outcomes.{IfNone_since}
use Rattle.terminals.proofs.delimited.between.Goals as goal

pub returns-in_err-after-2-clause-none : goal.returns-in_err-after-2-clause-none
returns-in_err-after-2-clause-none c =
    IfNone_since _ _
    (between_unclosed c.args.first c.args.last c.args.body c.requires.opens c.requires.closes c.requires.stops c.requires.no_escape
    c.args.text.now _ _ _ c.in_ok-after.ensures.found c.run.ensures c.in_err-after-2.ensures.none)

pub returns-clause-found : goal.returns-clause-found
returns-clause-found c =
    between_found c.args.first c.args.last c.args.body c.requires.opens c.requires.closes c.requires.stops c.requires.no_escape
    c.args.text.now _ _ _ c.in_ok-after.ensures.found c.run.ensures _ c.in_ok-after-2.ensures.found
