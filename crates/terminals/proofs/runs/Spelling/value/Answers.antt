use Rattle.std.proofs.Common.{◌∙◌}
use Rattle.terminals.proofs.runs.Spelling.value.Goals as goal

pub returns : goal.returns
returns c = λ value spells plain. c.with_escapes_undone.ensures ∙ c.in_ok-unescape.ensures.value value spells
