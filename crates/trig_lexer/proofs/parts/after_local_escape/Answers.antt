use Rattle.std.proofs.Common.{sym, ◌∙◌}
use Rattle.trig_lexer.proofs.Plx.{escape_none_other, escape_found}
use Rattle.trig_lexer.proofs.parts.after_local_escape.Goals as goal

pub returns-then-is_escaped_in_local-clause-found : goal.returns-then-is_escaped_in_local-clause-found
returns-then-is_escaped_in_local-clause-found c =
    escape_found c.args.text.now _ c.in_ok-after.ensures.found _ _ c.in_ok-c.ensures.found c.utf8.text (sym c.is_escaped_in_local.ensures ∙ c.if-is_escaped_in_local.true)

pub returns-else-is_escaped_in_local-clause-none : goal.returns-else-is_escaped_in_local-clause-none
returns-else-is_escaped_in_local-clause-none c =
    escape_none_other c.args.text.now _ c.in_ok-after.ensures.found _ _ c.in_ok-c.ensures.found (sym c.is_escaped_in_local.ensures ∙ c.if-is_escaped_in_local.false)
