use Rattle.std.proofs.Common.{◌+◌, ◌≤◌, length, ap, arith}
use Rattle.nquads_reader.specs.declared.TheConstants.{MOST_BYTES}
use Rattle.nquads_reader.specs.Pieces.{Reader}
use Rattle.nquads_reader.proofs.Begun.{room_more}
use Rattle.nquads_reader.proofs.line_reader.LineReader.take.Goals as goal

pub invariant_of-self : goal.invariant_of-self
invariant_of-self c none =
    let more = length c.args.piece.now in
    let room = (c.self.invariant none).1 in
    let few : c.self.inside.fed + more ≤ MOST_BYTES = omega (arith, ap (λ (r : Reader). r.fed) c.self.view_is, c.requires.fed) in
    (few, c.in-Ok.ensures.room (c.self.inside.fed + more) (room_more c.self.inside.fed c.self.inside.draft c.self.inside.lines (length c.self.inside.tail.items) more room))
