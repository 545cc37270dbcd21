use Rattle.trig_lexer.proofs.Longs.{pieces_found, pieces_none}
use Rattle.trig_lexer.proofs.quoted.after_long_pieces.Goals as goal

pub returns-then-rest-bare-clause-found : goal.returns-then-rest-bare-clause-found
returns-then-rest-bare-clause-found c =
    pieces_found c.args.quote c.args.text.now _ _ c.run.result.0 c.after_marks-bare.ensures c.run.ensures c.if-rest-bare.true

pub returns-else-rest-bare-clause-none : goal.returns-else-rest-bare-clause-none
returns-else-rest-bare-clause-none c =
    pieces_none c.args.quote c.args.text.now _ _ c.run.result.0 c.after_marks-bare.ensures c.run.ensures c.if-rest-bare.false c.requires.goes_on
