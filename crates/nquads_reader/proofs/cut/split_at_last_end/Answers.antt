use Rattle.nquads_reader.proofs.Splits.{cut_at}
use Rattle.nquads_reader.proofs.cut.split_at_last_end.Goals as goal

pub returns-in-Some : goal.returns-in-Some
returns-in-Some c = cut_at c.args.bytes.now c.in-Some.end c.in-Some.ensures.0.high c.in-Some.ensures.1 c.in-Some.ensures.0.after
