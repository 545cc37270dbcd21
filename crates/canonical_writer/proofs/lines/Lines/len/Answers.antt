use Rattle.std.proofs.Common.{length, sym, ap, ◌∙◌}
use Rattle.canonical_writer.proofs.Pieces.{length-pieces}
use Rattle.canonical_writer.proofs.lines.Lines.len.Goals as goal

pub returns : goal.returns
returns c = c.len.ensures ∙ (c.self.inside.lengths.ok.0 ∙ (sym (length-pieces c.self.inside.text.items c.self.inside.lengths.items) ∙ ap length c.self.view_is))
