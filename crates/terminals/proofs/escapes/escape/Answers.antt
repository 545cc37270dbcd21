use Rattle.terminals.proofs.Outcomes.{IfNone_since}
use Rattle.terminals.proofs.Unique.{no_escape_unmarked}
use Rattle.terminals.proofs.escapes.escape.Goals as goal

pub returns-in_err-after-clause-none : goal.returns-in_err-after-clause-none
returns-in_err-after-clause-none c = IfNone_since _ _ (no_escape_unmarked c.args.body c.args.text.now c.in_err-after.ensures.none)

pub returns-in-Iri-clause-none : goal.returns-in-Iri-clause-none
returns-in-Iri-clause-none c = rw c.in-Iri.is c.iri_escape.ensures.none
