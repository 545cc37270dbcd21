use Rattle.terminals.proofs.Escaping.{echar_found, echar_none}
use Rattle.terminals.proofs.Outcomes.{IfNone_since}
use Rattle.terminals.proofs.escapes.echar.Goals as goal

pub returns-in_err-echar_meaning-clause-none : goal.returns-in_err-echar_meaning-clause-none
returns-in_err-echar_meaning-clause-none c =
    IfNone_since _ _ (echar_none c.args.text.now _ _ c.in_ok-letter.letter c.in_ok-after.ensures.found c.in_ok-letter.ensures.found c.in_err-echar_meaning.ensures.none)

pub returns-clause-found : goal.returns-clause-found
returns-clause-found c =
    echar_found c.args.text.now _ _ c.in_ok-letter.letter _ c.in_ok-after.ensures.found c.in_ok-letter.ensures.found c.in_ok-echar_meaning.ensures.found
