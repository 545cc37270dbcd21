use Rattle.std.proofs.Common.{◌≡◌, ℕ, ◌+◌, length, sym, ◌∙◌, arith, vec_len}
use Rattle.std.proofs.lemmas.Bool.{eqb-true}
use Rattle.std.proofs.lemmas.Result.{on_ok_weaker}
use Rattle.nquads_reader.specs.Feeding.{HasRoom}
use Rattle.nquads_reader.proofs.Begun.{room_less}
use Rattle.nquads_reader.proofs.read_lines.read_ended.Goals as goal

pub returns-then-is_empty-2-clause-room : goal.returns-then-is_empty-2-clause-room
returns-then-is_empty-2-clause-room c =
    let empty : vec_len c.args.tail.now ≡ 0 = eqb-true (vec_len c.args.tail.now) 0 (sym c.is_empty-2.ensures ∙ c.if-is_empty-2.true) in
    on_ok_weaker {P = (limit behind : ℕ) → HasRoom limit c.args.draft.now c.args.lines.now (length c.args.bytes.now + behind) → HasRoom limit c.read_lines.new.draft c.read_lines.new.lines behind}
    {Q = (limit behind : ℕ) → HasRoom limit c.args.draft.now c.args.lines.now (length c.args.tail.now.items + length c.args.bytes.now + behind)
    → HasRoom limit c.read_lines.new.draft c.read_lines.new.lines (length c.args.tail.now.items + behind)} c.read_lines.result
    (λ room limit behind h.
    room_less limit c.read_lines.new.draft c.read_lines.new.lines behind (length c.args.tail.now.items + behind) (omega (arith, empty, c.args.tail.now.ok.0))
    (room limit behind (room_less limit c.args.draft.now c.args.lines.now (length c.args.tail.now.items + length c.args.bytes.now + behind) (length c.args.bytes.now + behind) (omega arith) h)))
    c.read_lines.ensures.room
