use Rattle.std.proofs.Common.{[]}
use Rattle.nquads_reader.proofs.read.read_nquads.Goals as goal

pub returns-clause-ok : goal.returns-clause-ok
returns-clause-ok c = c.finish.ensures.ok c.args.bytes.now (c.in_ok-feed.ensures.ok [] c.in_ok-reader.ensures)

pub returns-clause-err : goal.returns-clause-err
returns-clause-err c = c.finish.ensures.err c.args.bytes.now (c.in_ok-feed.ensures.ok [] c.in_ok-reader.ensures)
