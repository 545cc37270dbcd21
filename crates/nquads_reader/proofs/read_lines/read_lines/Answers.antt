use Rattle.std.proofs.Common.{◌+◌, ◌++◌, length, ap, sym, subst, ◌∙◌, arith, append-nil}
use Rattle.std.proofs.lemmas.Bool.{eqb-true}
use Rattle.nquads_reader.specs.Lines.{lines_of}
use Rattle.nquads_reader.specs.Reading.{TakesQuads, IsFaultNext}
use Rattle.nquads_reader.specs.Feeding.{TakesLines}
use Rattle.nquads_reader.proofs.Room.{taken_quads_room, taken_labels_room}
use Rattle.nquads_reader.proofs.ReadLines.{block_taken, behind_block, takes_append, no_lines}
use Rattle.nquads_reader.proofs.ValidQuad.{quads_valid}
use Rattle.nquads_reader.proofs.read_lines.read_lines.Goals as goal

pub take_quads-requires-clause-valid : goal.take_quads-requires-clause-valid
take_quads-requires-clause-valid c =
    let block = c.read_block-block.ensures.block in
    rw c.deref.ensures.value (quads_valid block.passed c.read_block-block.new.quads.items block.states)

pub loop-rest-preserved : goal.loop-rest-preserved
loop-rest-preserved c =
    let old = c.loop-rest.invariant in
    let quads = c.read_block-block.new.quads.items in
    let block = c.read_block-block.ensures.block in
    let takes : TakesQuads quads c.loop-rest.draft c.take_quads.new.draft = rw c.deref.ensures.value at c.in_ok-take_quads.ensures in
    record {
      passed = old.passed ++ block.passed;
      splits = behind_block (lines_of c.args.bytes.now) (lines_of c.loop-rest.rest.now) old.passed block.passed (lines_of c.read_block-block.result.rest.now) old.splits block.splits;
      takes =
          takes_append old.passed block.passed c.args.draft.now c.loop-rest.draft c.take_quads.new.draft c.args.lines.now c.loop-rest.lines
          (c.loop-rest.lines + c.read_block-block.result.lines) old.takes
          (block_taken c.loop-rest.rest.now quads c.read_block-block.result.lines c.read_block-block.result.rest.now c.loop-rest.draft c.take_quads.new.draft c.loop-rest.lines block takes);
      quads = omega (arith, old.quads, block.room, taken_quads_room quads c.loop-rest.draft c.take_quads.new.draft takes);
      labels = omega (arith, old.labels, block.room, taken_labels_room quads c.loop-rest.draft c.take_quads.new.draft takes);
      few = omega (arith, old.few, block.few);
    }

pub returns-in-Some-clause-err : goal.returns-in-Some-clause-err
returns-in-Some-clause-err c other =
    let old = c.loop-rest.invariant in
    let quads = c.read_block-block.new.quads.items in
    let block = c.read_block-block.ensures.block in
    let takes : TakesQuads quads c.loop-rest.draft c.take_quads.new.draft = rw c.deref.ensures.value at c.in_ok-take_quads.ensures in
    let next : IsFaultNext c.read_block-block.result.rest.now c.in-Some.fault = rw c.in-Some.is at c.read_block-block.ensures.fault in
    record {
      front = old.passed ++ block.passed;
      line = next.line;
      rest = next.more;
      splits =
          behind_block (lines_of c.args.bytes.now) (lines_of c.loop-rest.rest.now) old.passed block.passed (lines_of c.read_block-block.result.rest.now) old.splits block.splits
          ∙ ap (λ ls. (old.passed ++ block.passed) ++ ls) next.next;
      takes =
          takes_append old.passed block.passed c.args.draft.now c.loop-rest.draft c.take_quads.new.draft c.args.lines.now c.loop-rest.lines
          (c.loop-rest.lines + c.read_block-block.result.lines) old.takes
          (block_taken c.loop-rest.rest.now quads c.read_block-block.result.lines c.read_block-block.result.rest.now c.loop-rest.draft c.take_quads.new.draft c.loop-rest.lines block takes);
      has_fault = next.has_fault;
    }

pub returns-clause-ok : goal.returns-clause-ok
returns-clause-ok c =
    let old = c.loop-rest.invariant in
    let whole = old.splits ∙ ap (λ ls. old.passed ++ ls) (no_lines c.loop-rest.rest.now (eqb-true (length c.loop-rest.rest.now) 0 (sym c.loop-rest-test.ensures))) ∙ append-nil old.passed in
    subst (λ ls. TakesLines ls c.args.draft.now c.loop-rest.draft c.args.lines.now c.loop-rest.lines) (sym whole) old.takes
