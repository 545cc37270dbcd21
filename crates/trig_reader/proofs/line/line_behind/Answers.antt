use Rattle.std.proofs.Common.{arith}
use Rattle.trig_reader.proofs.Lines.{ends_are, counted_more}
use Rattle.trig_reader.proofs.line.line_behind.Goals as goal

pub loop-byte-init : goal.loop-byte-init
loop-byte-init c = record { counted = omega (arith, ends_are c.args.front.now); few = omega arith }

pub loop-byte-preserved : goal.loop-byte-preserved
loop-byte-preserved c = record {
  counted =
      counted_more c.args.front.now c.loop-byte.byte-index c.loop-byte.line c.lines_ended-line.result c.loop-byte.after_cr c.loop-byte-test.true c.lines_ended-line.ensures.ended
      c.loop-byte.invariant.counted;
  few = omega (arith, c.lines_ended-line.ensures.one, c.loop-byte.invariant.few);
}
