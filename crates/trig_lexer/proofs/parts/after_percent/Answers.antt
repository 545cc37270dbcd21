use Rattle.std.proofs.Common.{sym, ◌∙◌}
use Rattle.terminals.proofs.Outcomes.{IfNone_since}
use Rattle.trig_lexer.proofs.Plx.{percent_none_second, percent_none_hex, percent_none_second_hex, percent_found}
use Rattle.trig_lexer.proofs.parts.after_percent.Goals as goal
use Rattle.trig_lexer.proofs.parts.after_percent.Goals.{else-is_hex-via-then-is_hex+else-is_hex-2, else-is_hex-via-else-is_hex}

pub returns-in_err-second-clause-none : goal.returns-in_err-second-clause-none
returns-in_err-second-clause-none c =
    IfNone_since _ _ (percent_none_second c.args.text.now _ c.in_ok-after.ensures.found _ _ c.in_ok-first.ensures.found c.in_err-second.ensures.none)

pub returns-then-is_hex-2-clause-found : goal.returns-then-is_hex-2-clause-found
returns-then-is_hex-2-clause-found c =
    percent_found c.args.text.now _ c.in_ok-after.ensures.found _ _ c.in_ok-first.ensures.found _ _ c.in_ok-second.ensures.found c.utf8.text
    (sym c.is_hex.ensures ∙ c.if-is_hex.true) (sym c.is_hex-then-is_hex.ensures ∙ c.if-is_hex-2.true)

pub returns-else-is_hex-clause-none : goal.returns-else-is_hex-clause-none
returns-else-is_hex-clause-none c =
    elim c.else-is_hex.branch [
      | else-is_hex-via-then-is_hex+else-is_hex-2 w ↦
          percent_none_second_hex c.args.text.now _ c.in_ok-after.ensures.found _ _ c.in_ok-first.ensures.found _ _ c.in_ok-second.ensures.found
          (sym w.is_hex-then-is_hex.ensures ∙ w.if-is_hex-2.false)
      | else-is_hex-via-else-is_hex w ↦
          percent_none_hex c.args.text.now _ c.in_ok-after.ensures.found _ _ c.in_ok-first.ensures.found (sym c.is_hex.ensures ∙ w.if-is_hex.false)
    ]
