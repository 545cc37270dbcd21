use Rattle.std.proofs.Common.{refl, inl, inr}
use Rattle.terminals.proofs.Outcomes.{IfNone_then}
use Rattle.std.proofs.lemmas.Option.{IfSome_then}
use Rattle.trig_lexer.proofs.Exponents.{letter_none}
use Rattle.trig_lexer.proofs.number.after_letter.Goals as goal

pub returns-in-Some-clause-found : goal.returns-in-Some-clause-found
returns-in-Some-clause-found c = (101, c.in-Some.ensures.found, inl refl)

pub returns-in-None-clause-found : goal.returns-in-None-clause-found
returns-in-None-clause-found c = IfSome_then c.after-in-None.result c.after-in-None.ensures.found (λ rest e. (69, e, inr refl))

pub returns-in-None-clause-none : goal.returns-in-None-clause-none
returns-in-None-clause-none c = IfNone_then c.after-in-None.result _ _ (λ none. letter_none c.args.text.now c.in-None.ensures.none none) c.after-in-None.ensures.none
