use Rattle.std.proofs.Common.{subst}
use Rattle.rdf_terms.specs.Document.{statements}
use Rattle.rdf_terms.specs.declared.term.Term.TheVariants.{Blank}
use Rattle.rdf_terms.specs.declared.term.Label.TheVariants.{Anonymous}
use Rattle.trig_terms.specs.Meaning.{open_node, next_node, begin_item_in}
use Rattle.trig_builder.specs.Telling.{view_of, Tells}
use Rattle.trig_builder.proofs.Growth.{term_grows}
use Rattle.trig_builder.proofs.Items.{mention_sound, open_told, node_is, label_within, label_grown, no_items, some_items}
use Rattle.trig_builder.proofs.telling.Telling.next_cell.Goals as goal

pub first_cell-requires-clause-sound : goal.first_cell-requires-clause-sound
first_cell-requires-clause-sound c =
    mention_sound (view_of c.args.self.now) c.open.new.draft.labels (statements c.open.new.draft) c.open.new.opened c.in_ok-node.node
    (Anonymous c.args.self.now.opened) c.in_ok-node.ensures.interns c.requires.sound

pub first_cell-requires-clause-node : goal.first_cell-requires-clause-node
first_cell-requires-clause-node c =
    label_within c.args.self.now.draft.labels c.open.new.draft.labels (Anonymous c.args.self.now.opened) c.in_ok-node.node c.in_ok-node.ensures.interns

pub later_cell-requires-clause-sound : goal.later_cell-requires-clause-sound
later_cell-requires-clause-sound c =
    mention_sound (view_of c.args.self.now) c.open.new.draft.labels (statements c.open.new.draft) c.open.new.opened c.in_ok-node.node
    (Anonymous c.args.self.now.opened) c.in_ok-node.ensures.interns c.requires.sound

pub later_cell-requires-clause-node : goal.later_cell-requires-clause-node
later_cell-requires-clause-node c =
    label_within c.args.self.now.draft.labels c.open.new.draft.labels (Anonymous c.args.self.now.opened) c.in_ok-node.node c.in_ok-node.ensures.interns

pub returns-in_ok-first_cell-in-None-clause-tells : goal.returns-in_ok-first_cell-in-None-clause-tells
returns-in_ok-first_cell-in-None-clause-tells c t h =
    subst (λ q. Tells (view_of c.first_cell.new.self) (begin_item_in q t)) (no_items (view_of c.args.self.now) t c.args.last c.requires.here c.in-None.is h)
    (c.in_ok-first_cell-in-None.ensures.tells (open_node t) (next_node t) (node_is (view_of c.args.self.now) t c.open.new.draft.labels c.in_ok-node.node c.in_ok-node.ensures.interns h)
    (open_told (view_of c.args.self.now) t c.open.new.draft.labels (statements c.open.new.draft) c.open.new.opened c.in_ok-node.node
    c.in_ok-node.ensures.interns c.in_ok-node.ensures.statements c.in_ok-node.ensures.opens h))

pub returns-in_ok-later_cell-in-Some-clause-tells : goal.returns-in_ok-later_cell-in-Some-clause-tells
returns-in_ok-later_cell-in-Some-clause-tells c t h =
    let at = some_items (view_of c.args.self.now) t c.args.last c.in-Some.before c.requires.here c.in-Some.is h in
    subst (λ q. Tells (view_of c.later_cell.new.self) (begin_item_in q t)) at.is
    (c.in_ok-later_cell-in-Some.ensures.tells (open_node t) at.last (next_node t)
    (term_grows c.args.self.now.draft.labels c.open.new.draft.labels at.last (Blank c.in-Some.before)
    (label_grown c.args.self.now.draft.labels c.open.new.draft.labels (Anonymous c.args.self.now.opened) c.in_ok-node.node c.in_ok-node.ensures.interns) at.term)
    (node_is (view_of c.args.self.now) t c.open.new.draft.labels c.in_ok-node.node c.in_ok-node.ensures.interns h)
    (open_told (view_of c.args.self.now) t c.open.new.draft.labels (statements c.open.new.draft) c.open.new.opened c.in_ok-node.node
    c.in_ok-node.ensures.interns c.in_ok-node.ensures.statements c.in_ok-node.ensures.opens h))
