use Rattle.trig_lexer.proofs.Unsigned.{none_unpointed, double_unpointed, integer_unpointed}
use Rattle.trig_lexer.proofs.number.unpointed.Goals as goal

pub returns-then-text-behind-clause-none : goal.returns-then-text-behind-clause-none
returns-then-text-behind-clause-none c = none_unpointed c.args.text.now c.args.behind.now c.requires.whole c.requires.no_point c.if-text-behind.true

pub returns-in-Some-clause-found : goal.returns-in-Some-clause-found
returns-in-Some-clause-found c =
    double_unpointed c.args.text.now c.args.behind.now c.requires.whole c.requires.no_point _ c.if-text-behind.false c.in-Some.ensures.found

pub returns-in-None-clause-found : goal.returns-in-None-clause-found
returns-in-None-clause-found c =
    integer_unpointed c.args.text.now c.args.behind.now c.requires.whole c.requires.no_point c.if-text-behind.false c.in-None.ensures.none
