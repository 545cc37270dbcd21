use Rattle.std.proofs.Common.{◌≡◌, length, sym, ◌∙◌, arith}
use Rattle.std.proofs.lemmas.Bool.{cond-true}
use Rattle.canonical_writer.proofs.Pieces.{line_added, told_ok}
use Rattle.canonical_writer.proofs.lines.end_line.Goals as goal

pub returns-then-is_ok-2-clause-added : goal.returns-then-is_ok-2-clause-added
returns-then-is_ok-2-clause-added c old line written started fits =
    let ended : c.len.result ≡ length c.args.text.now.items = omega arith in
    let noted = c.push.ensures.items ∙ cond-true _ _ _ (sym c.is_ok-then-is_ok.ensures.value ∙ c.if-is_ok-2.true) in
    line_added old line _ _ _ c.args.lengths.now.items _ (told_ok c.args.written (sym c.is_ok.ensures.value ∙ c.if-is_ok.true) written) started ended fits noted
