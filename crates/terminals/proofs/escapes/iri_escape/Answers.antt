use Rattle.std.proofs.Common.{sym, ◌∙◌}
use Rattle.std.proofs.lemmas.Bool.{not-false}
use Rattle.terminals.specs.Escapes.{BeginsWithNoOne}
use Rattle.terminals.specs.Spellings.{IsEscape}
use Rattle.terminals.specs.declared.bodies.Body.TheVariants.{Iri}
use Rattle.terminals.proofs.Escaping.{iri_escape_none}
use Rattle.terminals.proofs.Outcomes.{IfNone_since}
use Rattle.terminals.proofs.escapes.iri_escape.Goals as goal

pub returns-in_err-c-clause-none : goal.returns-in_err-c-clause-none
returns-in_err-c-clause-none c = IfNone_since _ (BeginsWithNoOne (IsEscape Iri) c.args.text.now) (λ spelled d rest splits is. c.in_err-c.ensures.none spelled d rest splits is.0)

pub returns-else-is_iri_char-clause-none : goal.returns-else-is_iri_char-clause-none
returns-else-is_iri_char-clause-none c = λ spelled d rest splits is.
    iri_escape_none c.args.text.now _ c.in_ok-c.c c.in_ok-c.ensures.found
    (not-false _ (sym c.is_iri_char.ensures ∙ c.if-is_iri_char.false)) spelled d rest splits is.0 is.1
