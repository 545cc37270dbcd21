use Rattle.nquads_reader.proofs.LineTerms.{no_suffix}
use Rattle.nquads_reader.proofs.terms.literal.Goals as goal

pub returns-in_default : goal.returns-in_default
returns-in_default c = λ l r h. let none = rw c.in_default.is at c.in_ok-lexical.ensures in none l.lexical h.lexical.after h.lexical.begins

pub returns-in_default-2 : goal.returns-in_default-2
returns-in_default-2 c =
    no_suffix c.args.text.now c.in-Some.lexical c.in-Some.rest.now c.after_white.result.now (rw c.in-Some.is at c.in_ok-lexical.ensures) c.after_white.ensures
    (rw c.in_default-2.is at c.in_ok-suffix.ensures)
