use Rattle.std.proofs.Common.{◌≡◌, ◌≢◌, ℕ, ◌+◌, ◌++◌, length, ap, subst, ◌∙◌, arith, length-append}
use Rattle.std.proofs.lemmas.Result.{err_from_is_err_and, IfErr-weaker, on_ok_weaker}
use Rattle.nquads_reader.specs.declared.TheConstants.{MOST_BYTES}
use Rattle.nquads_reader.specs.Lines.{lines_of}
use Rattle.nquads_reader.specs.Feeding.{TakesLines, StopsAt, HasRoom}
use Rattle.nquads_reader.specs.declared.fault.LineFault.TheVariants.{NoMemory as Memory}
use Rattle.nquads_reader.proofs.Begun.{room_less, begun_taken, begun_stops, begun_stops_behind}
use Rattle.nquads_reader.proofs.read_lines.read_begun.Goals as goal

pub returns-in_err-read_lines-clause-err : goal.returns-in_err-read_lines-clause-err
returns-in_err-read_lines-clause-err c =
    let p = err_from_is_err_and c.from_residual-in_err-read_lines.result c.from_residual-in_err-read_lines.ensures.1 in
    let gathered : c.deref.result.now ≡ c.args.tail.now.items ++ c.next_line.result.0.now = c.deref.ensures.value ∙ c.in_ok-extend_from_slice.ensures.items in
    let fault = c.in_err-read_lines.field-0.0 in
    rw (p.1, p.2) (λ some clean other.
    begun_stops c.args.tail.now.items c.args.bytes.now c.next_line.result.0.now c.next_line.result.1.now c.next_line.ensures.lines some clean fault c.args.draft.now c.read_lines.new.draft
    c.args.lines.now c.read_lines.new.lines
    (subst (λ t. StopsAt (lines_of t) fault c.args.draft.now c.read_lines.new.draft c.args.lines.now c.read_lines.new.lines) gathered (c.in_err-read_lines.ensures.err other)))

pub read_lines-requires-2 : goal.read_lines-requires-2
read_lines-requires-2 c =
    let gathered : c.deref.result.now ≡ c.args.tail.now.items ++ c.next_line.result.0.now = c.deref.ensures.value ∙ c.in_ok-extend_from_slice.ensures.items in
    c.in_ok-read_lines.ensures.room MOST_BYTES (length c.next_line.result.1.now)
    (room_less MOST_BYTES c.args.draft.now c.args.lines.now (length c.args.tail.now.items + length c.args.bytes.now) (length c.deref.result.now + length c.next_line.result.1.now)
    (omega (arith, ap length gathered, length-append c.args.tail.now.items c.next_line.result.0.now, c.next_line.ensures.within)) c.requires.room)

pub returns-clause-ok : goal.returns-clause-ok
returns-clause-ok c some clean =
    let gathered : c.deref.result.now ≡ c.args.tail.now.items ++ c.next_line.result.0.now = c.deref.ensures.value ∙ c.in_ok-extend_from_slice.ensures.items in
    on_ok_weaker {P = TakesLines (lines_of c.next_line.result.1.now) c.read_lines.new.draft c.read_lines-2.new.draft c.read_lines.new.lines c.read_lines-2.new.lines}
    {Q = TakesLines (lines_of (c.args.tail.now.items ++ c.args.bytes.now)) c.args.draft.now c.read_lines-2.new.draft c.args.lines.now c.read_lines-2.new.lines} c.read_lines-2.result
    (λ more.
    begun_taken c.args.tail.now.items c.args.bytes.now c.next_line.result.0.now c.next_line.result.1.now c.next_line.ensures.lines some clean c.args.draft.now c.read_lines.new.draft
    c.read_lines-2.new.draft c.args.lines.now c.read_lines.new.lines c.read_lines-2.new.lines
    (subst (λ t. TakesLines (lines_of t) c.args.draft.now c.read_lines.new.draft c.args.lines.now c.read_lines.new.lines) gathered c.in_ok-read_lines.ensures.ok) more)
    c.read_lines-2.ensures.ok

pub returns-clause-room : goal.returns-clause-room
returns-clause-room c =
    let gathered : c.deref.result.now ≡ c.args.tail.now.items ++ c.next_line.result.0.now = c.deref.ensures.value ∙ c.in_ok-extend_from_slice.ensures.items in
    on_ok_weaker {P = (limit behind : ℕ) → HasRoom limit c.read_lines.new.draft c.read_lines.new.lines (length c.next_line.result.1.now + behind)
    → HasRoom limit c.read_lines-2.new.draft c.read_lines-2.new.lines behind} {Q = (limit behind : ℕ)
    → HasRoom limit c.args.draft.now c.args.lines.now (length c.args.tail.now.items + length c.args.bytes.now + behind)
    → HasRoom limit c.read_lines-2.new.draft c.read_lines-2.new.lines (length c.clear.new.self.items + behind)} c.read_lines-2.result
    (λ room limit behind h.
    room_less limit c.read_lines-2.new.draft c.read_lines-2.new.lines behind (length c.clear.new.self.items + behind) (omega (arith, ap length c.clear.ensures.items))
    (room limit behind (c.in_ok-read_lines.ensures.room limit (length c.next_line.result.1.now + behind)
    (room_less limit c.args.draft.now c.args.lines.now (length c.args.tail.now.items + length c.args.bytes.now + behind) (length c.deref.result.now + (length c.next_line.result.1.now + behind))
    (omega (arith, ap length gathered, length-append c.args.tail.now.items c.next_line.result.0.now, c.next_line.ensures.within)) h))))
    c.read_lines-2.ensures.room

pub returns-clause-err : goal.returns-clause-err
returns-clause-err c some clean =
    let gathered : c.deref.result.now ≡ c.args.tail.now.items ++ c.next_line.result.0.now = c.deref.ensures.value ∙ c.in_ok-extend_from_slice.ensures.items in
    IfErr-weaker c.read_lines-2.result
    (λ fault. fault ≢ Memory → StopsAt (lines_of c.next_line.result.1.now) fault c.read_lines.new.draft c.read_lines-2.new.draft c.read_lines.new.lines c.read_lines-2.new.lines)
    (λ fault. fault ≢ Memory → StopsAt (lines_of (c.args.tail.now.items ++ c.args.bytes.now)) fault c.args.draft.now c.read_lines-2.new.draft c.args.lines.now c.read_lines-2.new.lines)
    (λ fault h other.
    begun_stops_behind c.args.tail.now.items c.args.bytes.now c.next_line.result.0.now c.next_line.result.1.now c.next_line.ensures.lines some clean fault c.args.draft.now c.read_lines.new.draft
    c.read_lines-2.new.draft c.args.lines.now c.read_lines.new.lines c.read_lines-2.new.lines
    (subst (λ t. TakesLines (lines_of t) c.args.draft.now c.read_lines.new.draft c.args.lines.now c.read_lines.new.lines) gathered c.in_ok-read_lines.ensures.ok) (h other))
    c.read_lines-2.ensures.err
