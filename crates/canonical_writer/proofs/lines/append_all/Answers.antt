use Rattle.canonical_writer.proofs.Texts.{joined_behind}
use Rattle.canonical_writer.proofs.lines.append_all.Goals as goal

pub loop-text-preserved : goal.loop-text-preserved
loop-text-preserved c =
    joined_behind (λ t. t.now) c.args.texts.now c.loop-text.text-index _ c.args.out.now.items c.loop-text.out.items _ c.loop-text-test.true c.loop-text.invariant
    c.in_ok-extend_from_slice.ensures.items
