use Rattle.std.proofs.Common.{sym, subst}
use Rattle.terminals.specs.Terminals.{IriRef}
use Rattle.nquads_reader.specs.Grammar.{BeginsWithIri}
use Rattle.terminals.proofs.Facts.{no_reading}
use Rattle.nquads_reader.proofs.terms.iri.Goals as goal

pub returns-in_default : goal.returns-in_default
returns-in_default c = λ v r h. no_reading IriRef c.args.text.now v r c.in_default.ensures.none h

pub returns : goal.returns
returns c =
    let found = c.in-Some.ensures.found in
    subst (λ v. BeginsWithIri c.args.text.now v c.in-Some.rest.now) (sym (c.in_ok-value.ensures found.value found.spells found.plain)) found.begins
