use Rattle.trig_lexer.proofs.Longs.{one_mark, two_marks}
use Rattle.trig_lexer.proofs.quoted.after_marks.Goals as goal

pub returns-in_default-after_mark : goal.returns-in_default-after_mark
returns-in_default-after_mark c = one_mark c.args.quote c.args.text.now _ c.in-Some.ensures.found c.in_default-after_mark.ensures.none

pub returns : goal.returns
returns c = two_marks c.args.quote c.args.text.now _ _ c.in-Some.ensures.found c.in-Some-after_mark.ensures.found
