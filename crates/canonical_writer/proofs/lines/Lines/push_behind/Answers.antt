use Rattle.std.proofs.Common.{◌∙◌}
use Rattle.canonical_writer.proofs.lines.Lines.push_behind.Goals as goal

pub returns : goal.returns
returns g c = rw (← c.self.view_is) (c.end_line.ensures.added _ _ c.append_behind-written.ensures.ok (c.len-before.ensures ∙ c.self.inside.text.ok.0) c.self.invariant)
