use Rattle.std.proofs.Common.{◌≡◌}
use Rattle.rdf_terms.proofs.Common.{statements, term_of}
use Rattle.trig_builder.specs.declared.place.Place.TheVariants.{AtObject}
use Rattle.trig_builder.specs.Telling.{view_of}
use Rattle.trig_builder.proofs.Putting.{object_told}
use Rattle.trig_builder.proofs.telling.Telling.put_object.Goals as goal

pub returns-in_ok-say_in-clause-tells : goal.returns-in_ok-say_in-clause-tells
returns-in_ok-say_in-clause-tells c t said is h =
    let here : c.args.self.now.place ≡ AtObject (term_of c.as_ref.result) (term_of c.as_ref-in-AtObject.result) = cc in
    object_told (view_of c.args.self.now) t said (term_of c.as_ref.result) (term_of c.as_ref-in-AtObject.result) (term_of c.args.term) c.say_in.new.draft.labels (statements c.say_in.new.draft)
    here c.in_ok-say_in.ensures.labels is c.in_ok-say_in.ensures.says h
