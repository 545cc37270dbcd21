use Rattle.std.specs.Option.{option_copied}
use Rattle.std.proofs.lemmas.Result.{err_from_is_err_and}
use Rattle.trig_reader.proofs.read_text.read_text.Goals as goal

pub take_all-requires : goal.take_all-requires
take_all-requires c = c.in_ok-reading.ensures.taken c.args.text.now

pub returns-in_err-take_all-clause-err : goal.returns-in_err-take_all-clause-err
returns-in_err-take_all-clause-err c =
    let p = err_from_is_err_and c.from_residual-in_err-take_all.result c.from_residual-in_err-take_all.ensures.1 in
    rw (p.1, p.2) (c.in_err-take_all.ensures.err (option_copied c.args.base))
