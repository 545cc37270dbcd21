use Rattle.std.proofs.Common.{arith, rules}
use Rattle.rdfc_cli.proofs.Decimals.{room, tenth_fits, digit_written, first_written}
use Rattle.rdfc_cli.proofs.decimal.Decimal.of.Goals as goal

pub loop-rest-preserved : goal.loop-rest-preserved
loop-rest-preserved c =
    let i = c.loop-rest.invariant in
    record {
      start = omega arith;
      length = search rules;
      fits = tenth_fits c.loop-rest.rest c.loop-rest.start c.loop-rest-test.true i.fits;
      written =
          digit_written c.args.number c.loop-rest.rest c.loop-rest.start c.loop-rest.digits c.loop-rest-test.true (room c.loop-rest.rest c.loop-rest.start c.loop-rest-test.true i.fits)
          (omega arith) i.written;
    }

pub returns : goal.returns
returns c = first_written c.args.number c.loop-rest.rest c.loop-rest.start c.loop-rest.digits (omega arith) (omega arith) c.loop-rest.invariant.written
