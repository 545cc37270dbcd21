use Rattle.trig_lexer.proofs.Parting.{part_found}
use Rattle.trig_lexer.proofs.parts.after_part.Goals as goal

pub returns-clause-found : goal.returns-clause-found
returns-clause-found c = part_found c.args.part c.args.text.now _ _ c.in_ok-after_piece.ensures.found c.after_pieces.ensures
