use Rattle.std.proofs.Common.{codes, refl}
use Rattle.rdf_terms.proofs.Common.{term_of, statements}
use Rattle.trig_terms.proofs.Datatypes.{rdf_valid}
use Rattle.trig_builder.specs.Telling.{view_of}
use Rattle.trig_builder.proofs.Putting.{item_told}
use Rattle.trig_builder.proofs.telling.Telling.put_item.Goals as goal

pub say_in-requires-clause-valid_verb : goal.say_in-requires-clause-valid_verb
say_in-requires-clause-valid_verb c = rdf_valid (codes "first") refl refl

pub returns-clause-tells : goal.returns-clause-tells
returns-clause-tells c t said is h =
    item_told (view_of c.args.self.now) t said c.args.cell (term_of c.args.term) c.say_in.new.draft.labels (statements c.say_in.new.draft)
    c.requires.here c.in_ok-say_in.ensures.labels is c.in_ok-say_in.ensures.says h
