use Rattle.std.proofs.Common.{◌∷◌, ◌++◌, [], ap, ◌∙◌, arith, length-append}
use Rattle.nquads_reader.specs.Lines.{lines_of}
use Rattle.nquads_reader.proofs.Room.{appended_room, appended_few}
use Rattle.nquads_reader.proofs.ReadLines.{state_more, next_passed}
use Rattle.nquads_reader.proofs.block.read_block.Goals as goal

pub loop-quads-preserved : goal.loop-quads-preserved
loop-quads-preserved c =
    let old = c.loop-quads.invariant in
    let line = c.next_line.result.0.now in
    let after = c.next_line.result.1.now in
    let appends = c.in-Ok.ensures.ok in
    record {
      passed = old.passed ++ line ∷ [];
      splits = next_passed (lines_of c.args.bytes.now) old.passed line (lines_of after) (old.splits ∙ ap (λ ls. old.passed ++ ls) c.next_line.ensures.lines);
      states = state_more old.passed c.loop-quads.quads.items line c.push_line.new.quads.items old.states appends;
      counted = omega (arith, old.counted, length-append old.passed (line ∷ []));
      few_quads = omega (arith, old.few_quads, appended_few line c.loop-quads.quads.items c.push_line.new.quads.items appends);
      few = omega (arith, c.next_line.ensures.shorter, old.few);
      room = omega (arith, c.next_line.ensures.within, old.room, appended_room line c.loop-quads.quads.items c.push_line.new.quads.items appends);
    }
