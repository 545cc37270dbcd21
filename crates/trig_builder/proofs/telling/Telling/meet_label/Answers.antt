use Rattle.std.proofs.Common.{refl}
use Rattle.rdf_terms.specs.Document.{statements}
use Rattle.rdf_terms.specs.declared.term.Label.TheVariants.{Named}
use Rattle.trig_terms.specs.Meaning.{begin_item, mention}
use Rattle.trig_terms.specs.Meaning.Said.{Node}
use Rattle.trig_builder.specs.Telling.{view_of}
use Rattle.trig_builder.proofs.Items.{label_within, mention_sound, mention_told}
use Rattle.trig_builder.proofs.telling.Telling.meet_label.Goals as goal

pub put-requires-clause-sound : goal.put-requires-clause-sound
put-requires-clause-sound c =
    mention_sound (view_of c.begin_item.new.self) c.mention.new.draft.labels (statements c.mention.new.draft) c.begin_item.new.self.opened c.in_ok-node.node
    (Named c.args.name.now) c.in_ok-node.ensures.interns c.in_ok-begin_item.ensures.sound

pub put-requires-clause-valid : goal.put-requires-clause-valid
put-requires-clause-valid c = label_within c.begin_item.new.self.draft.labels c.mention.new.draft.labels (Named c.args.name.now) c.in_ok-node.node c.in_ok-node.ensures.interns

pub returns-clause-tells : goal.returns-clause-tells
returns-clause-tells c t h =
    c.in_ok-put.ensures.tells (mention (Named c.args.name.now) (begin_item t)) (Node (Named c.args.name.now)) (c.in_ok-node.node, c.in_ok-node.ensures.interns.at, refl)
    (mention_told (view_of c.begin_item.new.self) (begin_item t) c.mention.new.draft.labels (statements c.mention.new.draft) c.in_ok-node.node (Named c.args.name.now)
    c.in_ok-node.ensures.interns c.in_ok-node.ensures.statements (c.in_ok-begin_item.ensures.tells t h))
