use Rattle.terminals.specs.Terminals.{IriRef as Iri}
use Rattle.terminals.proofs.Outcomes.{IfNone_since}
use Rattle.trig_lexer.specs.declared.kind.Kind.TheVariants.{IriRef}
use Rattle.trig_lexer.proofs.Longest.{only_found, only_none}
use Rattle.trig_lexer.proofs.terminal.iri.Goals as goal

pub returns-in_err-rest-clause-none : goal.returns-in_err-rest-clause-none
returns-in_err-rest-clause-none c = IfNone_since _ _ (only_none IriRef Iri c.args.text.now c.in_err-rest.ensures.none)

pub returns-clause-found : goal.returns-clause-found
returns-clause-found c = only_found IriRef Iri c.args.text.now c.in_ok-rest.ensures.found.value _ c.in_ok-rest.ensures.found.begins
