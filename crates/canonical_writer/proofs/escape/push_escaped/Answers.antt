use Rattle.std.proofs.Common.{sym, subst, arith}
use Rattle.std.specs.Io.{StartsWith}
use Rattle.canonical_writer.proofs.Texts.{starts_past}
use Rattle.canonical_writer.proofs.Escaping.{run_goes_on, run_ends}
use Rattle.canonical_writer.proofs.escape.push_escaped.Goals as goal
use Rattle.canonical_writer.proofs.escape.push_escaped.Goals.{then-needs_escape+in_ok-extend_from_slice+in_ok-push_escape, else-needs_escape}

pub returns-in_err-push_escape-clause-front : goal.returns-in_err-push_escape-clause-front
returns-in_err-push_escape-clause-front c =
    starts_past _ c.loop-i.out.items _ _ c.loop-i.invariant.front (subst (λ t. StartsWith c.push_escape.new.out.items t) c.in_ok-extend_from_slice.ensures.items c.in_err-push_escape.ensures.front)

pub loop-i-preserved : goal.loop-i-preserved
loop-i-preserved c =
    let text = c.args.text.now in
    let i = c.loop-i.i in
    let kept = c.loop-i.invariant in
    elim c.if-needs_escape.branch [
      | then-needs_escape+in_ok-extend_from_slice+in_ok-push_escape w ↦ record {
        run = omega (arith, w.start-is);
        so_far =
            rw (w.out-is, w.start-is)
            (run_ends c.loop-i.out.items w.extend_from_slice.new.self.items _ _ text c.loop-i.start i 0 c.loop-i-test.true kept.so_far
            w.in_ok-extend_from_slice.ensures.items w.in_ok-push_escape.ensures.ok);
        front =
            rw w.out-is (starts_past _ c.loop-i.out.items _ _ kept.front
            (subst (λ t. StartsWith w.push_escape.new.out.items t) w.in_ok-extend_from_slice.ensures.items w.in_ok-push_escape.ensures.front));
      }
      | else-needs_escape w ↦ record {
        run = omega (arith, w.start-is);
        so_far = rw (w.out-is, w.start-is) (run_goes_on c.loop-i.out.items _ text c.loop-i.start i 0 kept.run c.loop-i-test.true (sym w.if-needs_escape.ensures) kept.so_far);
        front = rw w.out-is kept.front;
      }
    ]
