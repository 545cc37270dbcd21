use Rattle.terminals.proofs.Outcomes.{IfNone_then}
use Rattle.trig_lexer.specs.Numbers.{NumberShapes}
use Rattle.std.proofs.lemmas.Option.{IfSome_then}
use Rattle.trig_lexer.proofs.AsciiTokens.{ascii_longest, ascii_no_token}
use Rattle.trig_lexer.proofs.Numbering.{number_ascii, number_found, number_none}
use Rattle.trig_lexer.proofs.number.number.Goals as goal

pub returns-clause-found : goal.returns-clause-found
returns-clause-found c =
    IfSome_then c.unsigned.result c.unsigned.ensures.found
    (λ x is. ascii_longest NumberShapes number_ascii c.args.text.now x.kind x.rest.now c.utf8.text (number_found c.args.text.now _ c.after_sign.ensures x.kind x.rest.now is))

pub returns-clause-none : goal.returns-clause-none
returns-clause-none c =
    IfNone_then c.unsigned.result _ _
    (λ none. ascii_no_token NumberShapes number_ascii c.args.text.now (number_none c.args.text.now _ c.after_sign.ensures none))
    c.unsigned.ensures.none
