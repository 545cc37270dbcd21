use Rattle.std.proofs.Common.{◌+◌, ◌≤◌, ◌++◌, length, ap, sym, subst, ◌∙◌, arith, length-append}
use Rattle.std.proofs.lemmas.Result.{err_from_is_err_and}
use Rattle.rdf_terms.specs.Lists.{Text}
use Rattle.nquads_reader.specs.Pieces.{IsCut, AreTaken}
use Rattle.nquads_reader.specs.Feeding.{behind_line_end}
use Rattle.nquads_reader.proofs.Cuts.{behind_short}
use Rattle.nquads_reader.proofs.Begun.{room_less}
use Rattle.nquads_reader.proofs.Pieces.{goes_on, stops}
use Rattle.nquads_reader.proofs.take_piece.take_piece.Goals as goal

pub returns-in_err-read_ended-clause-err : goal.returns-in_err-read_ended-clause-err
returns-in_err-read_ended-clause-err c =
    let p = err_from_is_err_and c.from_residual.result c.from_residual.ensures.1 in
    rw (p.1, p.2) (λ bytes taken cr other.
    let cut = subst (λ b. IsCut b c.split_at_last_end.result.0.now c.split_at_last_end.result.1.now)
    (c.behind_line_end-bytes.ensures ∙ ap (λ x. behind_line_end x c.args.piece.now) cr) c.split_at_last_end.ensures in
    stops bytes c.args.draft.now c.args.lines.now c.args.tail.now.items taken c.args.piece.now c.split_at_last_end.result.0.now c.split_at_last_end.result.1.now cut c.read_ended.new.draft
    c.read_ended.new.lines c.in_err-read_ended.field-0.0 other (c.in_err-read_ended.ensures.err taken.cut.no_end other))

pub returns-clause-ok : goal.returns-clause-ok
returns-clause-ok c bytes taken cr =
    let cut = subst (λ b. IsCut b c.split_at_last_end.result.0.now c.split_at_last_end.result.1.now)
    (c.behind_line_end-bytes.ensures ∙ ap (λ x. behind_line_end x c.args.piece.now) cr) c.split_at_last_end.ensures in
    let tail = c.in_ok-extend_from_slice.ensures.items ∙ ap (λ t. t ++ c.split_at_last_end.result.1.now) c.in_ok-read_ended.ensures.tail in
    subst (λ t. AreTaken (bytes ++ c.args.piece.now) c.read_ended.new.draft c.read_ended.new.lines t) (sym tail)
    (goes_on bytes c.args.draft.now c.args.lines.now c.args.tail.now.items taken c.args.piece.now c.split_at_last_end.result.0.now c.split_at_last_end.result.1.now
    cut c.read_ended.new.draft c.read_ended.new.lines (c.in_ok-read_ended.ensures.ok taken.cut.no_end))

pub returns-clause-room : goal.returns-clause-room
returns-clause-room c limit h =
    let ended : Text = c.split_at_last_end.result.0.now in
    let unended : Text = c.split_at_last_end.result.1.now in
    let whole : length ended + length unended ≤ length c.args.piece.now = omega (
      arith,
      ap length c.split_at_last_end.ensures.whole,
      length-append ended unended,
      ap length c.behind_line_end-bytes.ensures,
      behind_short c.args.after_cr c.args.piece.now,
    ) in
    let old = room_less limit c.args.draft.now c.args.lines.now (length c.args.tail.now.items + length c.args.piece.now) (length c.args.tail.now.items + length ended + length unended)
    (omega (arith, whole)) h in
    room_less limit c.read_ended.new.draft c.read_ended.new.lines (length c.read_ended.new.tail.items + length unended) (length c.extend_from_slice.new.self.items)
    (omega (arith, ap length c.in_ok-extend_from_slice.ensures.items, length-append c.read_ended.new.tail.items unended))
    (c.in_ok-read_ended.ensures.room limit (length unended) old)
