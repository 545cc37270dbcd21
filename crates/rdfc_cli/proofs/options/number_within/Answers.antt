use Rattle.std.proofs.Common.{sym, ◌∙◌, arith}
use Rattle.rdf_terms.proofs.Numerals.{numeral-injective}
use Rattle.rdfc_cli.proofs.options.number_within.Goals as goal
use Rattle.rdfc_cli.proofs.options.number_within.Goals.{else-least-number-via-then-least-number+else-number-greatest, else-least-number-via-else-least-number}

pub returns-else-least-number-clause-none : goal.returns-else-least-number-clause-none
returns-else-least-number-clause-none c n low high e =
    let same = numeral-injective _ _ (sym c.in_ok-number.ensures.some ∙ e) in
    elim c.else-least-number.branch [ else-least-number-via-then-least-number+else-number-greatest w ↦ omega arith | else-least-number-via-else-least-number w ↦ omega arith ]
