use Rattle.std.proofs.Common.{refl, inl, inr}
use Rattle.trig_lexer.proofs.Signs.{sign_found}
use Rattle.trig_lexer.proofs.number.after_sign.Goals as goal

pub returns-in-Some : goal.returns-in-Some
returns-in-Some c = sign_found c.args.text.now c.in-Some.rest.now 43 c.in-Some.ensures.found (inl refl)

pub returns-in-Some-after : goal.returns-in-Some-after
returns-in-Some-after c = sign_found c.args.text.now c.in-Some-after.rest.now 45 c.in-Some-after.ensures.found (inr refl)
