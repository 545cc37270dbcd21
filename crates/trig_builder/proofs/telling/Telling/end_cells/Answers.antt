use Rattle.std.proofs.Common.{Some, refl, subst, codes}
use Rattle.rdf_terms.specs.Document.{statements}
use Rattle.trig_terms.specs.Meaning.{say, rdf_rest, rdf_nil, end_items_in}
use Rattle.trig_terms.proofs.Datatypes.{rdf_valid}
use Rattle.trig_builder.specs.Telling.{view_of, Tells}
use Rattle.trig_builder.proofs.Items.{some_items, last_told}
use Rattle.trig_builder.proofs.telling.Telling.end_cells.Goals as goal

pub say_in-requires-clause-valid_verb : goal.say_in-requires-clause-valid_verb
say_in-requires-clause-valid_verb c = rdf_valid (codes "rest") refl refl

pub say_in-requires-clause-object : goal.say_in-requires-clause-object
say_in-requires-clause-object c = rdf_valid (codes "nil") refl refl

pub returns-clause-tells : goal.returns-clause-tells
returns-clause-tells c t h =
    let at = some_items (view_of c.args.self.now) t (Some c.args.cell) c.args.cell c.requires.here refl h in
    subst (λ q. Tells (view_of c.leave.new.self) (end_items_in q t)) at.is
    (c.leave.ensures.tells (say at.last rdf_rest rdf_nil t)
    (last_told (view_of c.args.self.now) t at.last c.args.cell c.say_in.new.draft.labels (statements c.say_in.new.draft) c.in_ok-say_in.ensures.labels at.term c.in_ok-say_in.ensures.says h))
