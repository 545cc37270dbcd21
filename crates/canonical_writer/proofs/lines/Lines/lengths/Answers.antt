use Rattle.std.proofs.Common.{length, map, sym, ap, ◌∙◌}
use Rattle.canonical_writer.proofs.Pieces.{lengths-pieces}
use Rattle.canonical_writer.proofs.lines.Lines.lengths.Goals as goal

pub returns : goal.returns
returns c = c.as_slice.ensures.value ∙ (sym (lengths-pieces c.self.inside.text.items c.self.inside.lengths.items c.self.invariant) ∙ ap (map length) c.self.view_is)
