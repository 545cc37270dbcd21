use Rattle.trig_lexer.proofs.Exponents.{exponent_none_digits, exponent_found}
use Rattle.trig_lexer.proofs.number.after_exponent.Goals as goal

pub returns-then-rest-digits-clause-found : goal.returns-then-rest-digits-clause-found
returns-then-rest-digits-clause-found c =
    exponent_found c.args.text.now _ c.in_ok-after_letter.ensures.found _ _ c.after_sign-digits.ensures c.after_digits-rest.ensures c.if-rest-digits.true

pub returns-else-rest-digits-clause-none : goal.returns-else-rest-digits-clause-none
returns-else-rest-digits-clause-none c =
    exponent_none_digits c.args.text.now _ c.in_ok-after_letter.ensures.found _ _ c.after_sign-digits.ensures c.after_digits-rest.ensures c.if-rest-digits.false
