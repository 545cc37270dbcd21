use Rattle.std.proofs.Common.{ap, ◌∙◌}
use Rattle.trig_builder.specs.Telling.{view_of, without_verb}
use Rattle.trig_builder.proofs.Items.{next_verb_told}
use Rattle.trig_builder.proofs.telling.Telling.next_verb.Goals as goal

pub returns-clause-tells : goal.returns-clause-tells
returns-clause-tells c t h = next_verb_told (view_of c.args.self.now) t c.without_verb.result (c.without_verb.ensures ∙ ap without_verb c.replace-behind.ensures.value) h
