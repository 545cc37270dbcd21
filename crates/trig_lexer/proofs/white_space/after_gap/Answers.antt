use Rattle.std.proofs.Common.{sym, ◌∙◌}
use Rattle.std.proofs.lemmas.Str.{IsUtf8-past_char}
use Rattle.terminals.proofs.Outcomes.{IfNone_since}
use Rattle.trig_lexer.proofs.WhiteSpace.{white_gap, comment_gap, no_gap_empty, no_gap_other}
use Rattle.trig_lexer.proofs.white_space.after_gap.Goals as goal

pub returns-in_err-first-clause-none : goal.returns-in_err-first-clause-none
returns-in_err-first-clause-none c = IfNone_since _ _ (no_gap_empty c.args.text.now c.in_err-first.ensures.none)

pub returns-then-is_white_space-clause-found : goal.returns-then-is_white_space-clause-found
returns-then-is_white_space-clause-found c =
    white_gap c.args.text.now _ _ c.in_ok-first.ensures.found (sym c.is_white_space.ensures ∙ c.if-is_white_space.true)
    (IsUtf8-past_char c.args.text.now _ _ c.utf8.text c.in_ok-first.ensures.found)

pub returns-then-first-eq35-clause-found : goal.returns-then-first-eq35-clause-found
returns-then-first-eq35-clause-found c = comment_gap c.args.text.now _ _ _ c.in_ok-first.ensures.found c.if-first-eq35.true c.after_line.ensures

pub returns-else-first-eq35-clause-none : goal.returns-else-first-eq35-clause-none
returns-else-first-eq35-clause-none c =
    no_gap_other c.args.text.now _ _ c.in_ok-first.ensures.found (sym c.is_white_space.ensures ∙ c.if-is_white_space.false) c.if-first-eq35.false
