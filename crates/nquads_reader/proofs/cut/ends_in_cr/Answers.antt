use Rattle.std.proofs.Common.{sym}
use Rattle.nquads_reader.proofs.Splits.{last_cr}
use Rattle.nquads_reader.proofs.cut.ends_in_cr.Goals as goal

pub returns-in-Some : goal.returns-in-Some
returns-in-Some c before same = last_cr before c.args.piece.now c.in-Some.last.now (sym c.in-Some.ensures.value)
