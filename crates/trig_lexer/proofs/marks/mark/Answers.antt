use Rattle.std.proofs.lemmas.Str.{IsUtf8-past_char}
use Rattle.terminals.proofs.Outcomes.{IfNone_since}
use Rattle.trig_lexer.proofs.WordFronts.{mark_found, mark_none, mark_none_empty}
use Rattle.trig_lexer.proofs.marks.mark.Goals as goal

pub returns-in_err-first-clause-none : goal.returns-in_err-first-clause-none
returns-in_err-first-clause-none c = IfNone_since _ _ (mark_none_empty c.args.text.now c.in_err-first.ensures.none)

pub returns-in_err-kind-clause-none : goal.returns-in_err-kind-clause-none
returns-in_err-kind-clause-none c = IfNone_since _ _ (mark_none c.args.text.now _ _ c.in_ok-first.ensures.found c.in_err-kind.ensures.none)

pub returns-clause-found : goal.returns-clause-found
returns-clause-found c =
    mark_found c.args.text.now _ _ _ c.in_ok-first.ensures.found
    (IsUtf8-past_char c.args.text.now _ _ c.utf8.text c.in_ok-first.ensures.found) c.in_ok-kind.ensures.found
