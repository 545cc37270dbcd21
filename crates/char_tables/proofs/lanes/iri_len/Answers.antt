use Rattle.std.proofs.Common.{◌≡◌, drop, arith}
use Rattle.std.proofs.lemmas.List.{drop-drop, length-drop}
use Rattle.char_tables.specs.Classes.{may_stand_in_iriref}
use Rattle.char_tables.proofs.LaneLengths.{prefix_len-take_all, prefix_len-take_some}
use Rattle.char_tables.proofs.lanes.iri_len.Goals as goal

pub returns-then-len-lt-LANES-clause-is : goal.returns-then-len-lt-LANES-clause-is
returns-then-len-lt-LANES-clause-is c =
    let rest = drop c.loop-at.at c.args.bytes.now in
    let some = prefix_len-take_some may_stand_in_iriref 16 rest (omega (arith, c.lanes_len-len.ensures.is, c.if-len-lt-LANES.true))
    (omega (arith, length-drop c.loop-at.at c.args.bytes.now, c.loop-at-test.true)) in
    omega (arith, c.lanes_len-len.ensures.is, some, c.loop-at.invariant.all_before)

pub loop-at-preserved : goal.loop-at-preserved
loop-at-preserved c =
    let rest = drop c.loop-at.at c.args.bytes.now in
    let all = prefix_len-take_all may_stand_in_iriref 16 rest (omega (arith, length-drop c.loop-at.at c.args.bytes.now, c.loop-at-test.true))
    (omega (arith, c.lanes_len-len.ensures, c.if-len-lt-LANES.false)) in
    let whole : c.lanes_len-len.result ≡ 16 = omega (arith, c.lanes_len-len.ensures.within, c.if-len-lt-LANES.false) in
    record {
      within = omega (arith, whole, c.loop-at-test.true, c.loop-at.invariant.within);
      all_before = rw (whole, ← drop-drop 16 c.loop-at.at c.args.bytes.now) (omega (arith, all, c.loop-at.invariant.all_before));
    }
