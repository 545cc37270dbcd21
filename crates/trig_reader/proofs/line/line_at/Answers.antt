use Rattle.std.proofs.Common.{suc, take, ap, ◌∙◌}
use Rattle.std.proofs.lemmas.List.{take_min}
use Rattle.trig_reader.specs.Lines.{line_at, line_ends}
use Rattle.trig_reader.proofs.line.line_at.Goals as goal

pub returns : goal.returns
unfolding line_at
returns c =
    c.line_behind.ensures
    ∙ ap (λ n. suc (line_ends (take n c.args.bytes.now))) c.min.ensures
    ∙ ap (λ t. suc (line_ends t)) (take_min c.args.place c.args.bytes.now)
