use Rattle.std.proofs.Common.{length, ap, eq-eqb, sym, ◌∙◌, true≢false}
use Rattle.trig_lexer.proofs.Places.{next_found, next_none}
use Rattle.trig_lexer.proofs.token.next.Goals as goal

pub returns-clause-found : goal.returns-clause-found
returns-clause-found c =
    next_found c.args.after_string c.args.text.now c.token.result
    (λ e. true≢false (sym (eq-eqb _ _ (ap length e)) ∙ sym c.is_empty.ensures ∙ c.if-is_empty.false)) c.token.ensures

pub returns-clause-none : goal.returns-clause-none
returns-clause-none c = next_none c.args.after_string c.args.text.now c.token.result c.token.ensures
