use Rattle.std.proofs.Common.{sym, ap, ◌∙◌}
use Rattle.rdf_terms.specs.Lists.{joined}
use Rattle.canonical_writer.proofs.Pieces.{joined-pieces}
use Rattle.canonical_writer.proofs.lines.Lines.text.Goals as goal

pub returns : goal.returns
returns c = c.as_slice.ensures.value ∙ (sym (joined-pieces c.self.inside.text.items c.self.inside.lengths.items c.self.invariant) ∙ ap joined c.self.view_is)
