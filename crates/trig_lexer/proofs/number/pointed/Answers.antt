use Rattle.trig_lexer.proofs.Unsigned.{none_pointed, double_pointed, decimal_pointed, integer_pointed}
use Rattle.trig_lexer.proofs.number.pointed.Goals as goal

pub returns-then-text-end-clause-none : goal.returns-then-text-end-clause-none
returns-then-text-end-clause-none c =
    none_pointed c.args.text.now c.args.behind.now c.requires.whole c.args.fraction.now _ c.requires.point c.after_digits-end.ensures c.if-text-end.true

pub returns-in-Some-clause-found : goal.returns-in-Some-clause-found
returns-in-Some-clause-found c =
    double_pointed c.args.text.now c.args.behind.now c.requires.whole c.args.fraction.now _ c.requires.point c.after_digits-end.ensures _ c.if-text-end.false c.in-Some.ensures.found

pub returns-then-end-fraction-clause-found : goal.returns-then-end-fraction-clause-found
returns-then-end-fraction-clause-found c =
    decimal_pointed c.args.text.now c.args.behind.now c.requires.whole c.args.fraction.now _ c.requires.point c.after_digits-end.ensures c.if-end-fraction.true c.in-None.ensures.none

pub returns-else-end-fraction-clause-found : goal.returns-else-end-fraction-clause-found
returns-else-end-fraction-clause-found c =
    integer_pointed c.args.text.now c.args.behind.now c.requires.whole c.args.fraction.now _ c.requires.point c.after_digits-end.ensures c.if-text-end.false c.if-end-fraction.false
    c.in-None.ensures.none
