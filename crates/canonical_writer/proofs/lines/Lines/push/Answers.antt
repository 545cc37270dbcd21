use Rattle.std.proofs.Common.{◌∙◌}
use Rattle.canonical_writer.proofs.lines.Lines.push.Goals as goal

pub returns-clause-pushed : goal.returns-clause-pushed
returns-clause-pushed g c = rw (← c.self.view_is) (c.end_line.ensures.added _ _ c.append_line-written.ensures.ok (c.len-before.ensures ∙ c.self.inside.text.ok.0) c.self.invariant)
