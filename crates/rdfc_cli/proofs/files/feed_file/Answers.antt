use Rattle.std.proofs.Common.{◌≡◌, ℕ, ◌+◌, ◌≤◌, ◌++◌, length, take, refl, arith, subst, ◌∙◌, length-take}
use Rattle.rdfc_cli.proofs.Reading.{fed_nothing, fed_more, fed_whole, longer, whole}
use Rattle.rdfc_cli.proofs.files.feed_file.Goals as goal

pub loop-total-init : goal.loop-total-init
loop-total-init g c = record {
  ready = c.in_ok-start.ensures.ready;
  fed = fed_nothing g.I.Intake.holds _ _ _ 0 c.in_ok-start.ensures.rest c.requires refl;
  told = c.start.ensures.told;
  never_fell = c.start.ensures.never_fell;
  buffer = c.in_ok-piece.ensures;
  within = omega arith;
}

pub take-requires : goal.take-requires
take-requires g c = (
  c.loop-total.invariant.fed.bytes,
  c.loop-total.invariant.fed.holds,
  omega (
    arith,
    c.loop-total.invariant.fed.counted,
    c.loop-total-test.true,
    c.in_ok-count.ensures.bound,
    c.next.auto.buf,
    c.deref_mut.ensures.len,
    c.deref.ensures.len,
    length-take {A = ℕ},
    c.loop-total.invariant.buffer,
  ),
)

pub loop-total-preserved : goal.loop-total-preserved
loop-total-preserved g c =
    let count = c.in_ok-count.count in
    let given = take count c.next.new.buf in
    let bound : count ≤ length c.next.new.buf = c.in_ok-count.ensures.bound in
    let now : c.loop-total.total + count ≡ c.loop-total.total + length given = omega (arith, length-take {A = ℕ}) in
    record {
      ready = c.in_ok-count.ensures.ready;
      fed = fed_more g.I.Intake.holds _ _ _ c.loop-total.intake c.take.new.self c.loop-total.total _ given c.loop-total.invariant.fed c.in_ok-count.ensures.bytes.0
          (λ bytes holds.
          subst (λ l. g.I.Intake.holds c.take.new.self (bytes ++ take count l)) (c.deref.ensures.value
          ∙ whole c.loop-total.piece.len c.next.new.buf _ (omega (arith, c.next.auto.buf, c.deref_mut.ensures.len)))
          (c.in_ok-take.ensures bytes holds))
          now;
      told = λ other. c.next.ensures.told other ∙ c.loop-total.invariant.told other;
      never_fell = λ other. omega (arith, c.loop-total.invariant.never_fell other, c.next.ensures.never_fell other);
      buffer = c.loop-total.invariant.buffer;
      within = omega (arith, c.loop-total-test.true, c.in_ok-count.ensures.bound, c.next.auto.buf, c.deref_mut.ensures.len, c.loop-total.invariant.buffer);
    }

pub returns-then-count-eq0-clause-fed : goal.returns-then-count-eq0-clause-fed
returns-then-count-eq0-clause-fed g c = fed_whole g.I.Intake.holds _ _ _ c.loop-total.intake c.loop-total.total _ c.loop-total.invariant.fed c.in_ok-count.ensures.bytes.0
    (omega (arith, c.if-count-eq0.true, length-take {A = ℕ}))
    (c.in_ok-count.ensures.bytes.1 c.if-count-eq0.true (omega (arith, c.next.auto.buf, c.deref_mut.ensures.len, c.loop-total.invariant.buffer)))
    c.loop-total-test.true

pub returns-clause-fault : goal.returns-clause-fault
returns-clause-fault g c = λ syntax. longer _ _ c.loop-total.invariant.fed.bytes _ c.loop-total.invariant.fed.consumed (omega (arith, c.loop-total-test.false, c.loop-total.invariant.fed.counted))
