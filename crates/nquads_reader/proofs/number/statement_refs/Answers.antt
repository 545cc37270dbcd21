use Rattle.std.proofs.Common.{◌<◌, length, ◌∙◌, arith}
use Rattle.nquads_reader.proofs.ManyQuads.{labels_next, numbers_next}
use Rattle.nquads_reader.proofs.Room.{labels_room}
use Rattle.nquads_reader.proofs.number.statement_refs.Goals as goal

pub loop-quad-preserved : goal.loop-quad-preserved
loop-quad-preserved c =
    let less : c.loop-quad.quad-index < length c.args.quads.now = omega arith in
    let one = c.in_ok-statement_ref.ensures in
    record {
      numbers =
          rw c.in_ok-push.ensures.items
          (numbers_next c.args.quads.now c.loop-quad.quad-index c.quad-item.result less c.quad-item.is c.args.draft.now.labels
          c.loop-quad.draft.labels c.statement_ref.new.draft.labels one.labels c.loop-quad.refs.items c.in_ok-statement_ref.field-0 one.numbers c.loop-quad.invariant.numbers);
      labels =
          labels_next c.args.quads.now c.loop-quad.quad-index c.quad-item.result less c.quad-item.is c.args.draft.now.labels c.loop-quad.draft.labels c.statement_ref.new.draft.labels one.labels
          c.loop-quad.invariant.labels;
      statements = one.statements ∙ c.loop-quad.invariant.statements;
      room = omega (arith, c.loop-quad.invariant.room, labels_room c.loop-quad.draft.labels c.statement_ref.new.draft.labels c.quad-item.result one.labels);
    }
