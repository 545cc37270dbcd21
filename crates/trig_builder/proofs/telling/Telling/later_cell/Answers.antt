use Rattle.std.proofs.Common.{codes, refl}
use Rattle.rdf_terms.specs.Document.{statements}
use Rattle.trig_terms.proofs.Datatypes.{rdf_valid}
use Rattle.trig_builder.specs.Telling.{view_of}
use Rattle.trig_builder.proofs.Items.{later_told, later_sound}
use Rattle.trig_builder.proofs.telling.Telling.later_cell.Goals as goal

pub say_in-requires-clause-valid_verb : goal.say_in-requires-clause-valid_verb
say_in-requires-clause-valid_verb c = rdf_valid (codes "rest") refl refl

pub returns-clause-sound : goal.returns-clause-sound
returns-clause-sound c = later_sound (view_of c.args.self.now) c.args.node c.say_in.new.draft.labels (statements c.say_in.new.draft) c.in_ok-say_in.ensures.labels c.requires.node c.requires.sound

pub returns-clause-tells : goal.returns-clause-tells
returns-clause-tells c t last cell k is h =
    later_told (view_of c.args.self.now) t last cell c.args.before c.args.node c.say_in.new.draft.labels (statements c.say_in.new.draft)
    c.in_ok-say_in.ensures.labels k is c.in_ok-say_in.ensures.says h
