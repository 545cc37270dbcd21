use Rattle.std.proofs.Common.{◌<◌, length, sym, subst}
use Rattle.rdf_terms.specs.Document.{statements}
use Rattle.rdf_terms.specs.declared.term.Term.TheVariants.{Blank}
use Rattle.rdf_terms.specs.declared.term.Label.TheVariants.{Anonymous}
use Rattle.trig_terms.specs.Meaning.{open_node, next_node}
use Rattle.trig_builder.specs.Numbered.{IsTermOf}
use Rattle.trig_builder.specs.Telling.{view_of}
use Rattle.trig_builder.proofs.Items.{mention_sound, open_told, node_is, label_within}
use Rattle.trig_builder.proofs.telling.Telling.put_next.Goals as goal

pub put-requires-clause-sound : goal.put-requires-clause-sound
put-requires-clause-sound c =
    mention_sound (view_of c.args.self.now) c.open.new.draft.labels (statements c.open.new.draft) c.open.new.opened c.in_ok-node.node
    (Anonymous c.args.self.now.opened) c.in_ok-node.ensures.interns c.requires

pub put-requires-clause-valid : goal.put-requires-clause-valid
put-requires-clause-valid c = label_within c.args.self.now.draft.labels c.open.new.draft.labels (Anonymous c.args.self.now.opened) c.in_ok-node.node c.in_ok-node.ensures.interns

pub returns-clause-node : goal.returns-clause-node
returns-clause-node c =
    subst (λ ls. c.in_ok-node.node < length ls) (sym c.in_ok-put.ensures.labels)
    (label_within c.args.self.now.draft.labels c.open.new.draft.labels (Anonymous c.args.self.now.opened) c.in_ok-node.node c.in_ok-node.ensures.interns)

pub returns-clause-is : goal.returns-clause-is
returns-clause-is c t h =
    subst (λ ls. IsTermOf ls (next_node t) (Blank c.in_ok-node.node)) (sym c.in_ok-put.ensures.labels)
    (node_is (view_of c.args.self.now) t c.open.new.draft.labels c.in_ok-node.node c.in_ok-node.ensures.interns h)

pub returns-clause-tells : goal.returns-clause-tells
returns-clause-tells c t h =
    c.in_ok-put.ensures.tells (open_node t) (next_node t) (node_is (view_of c.args.self.now) t c.open.new.draft.labels c.in_ok-node.node c.in_ok-node.ensures.interns h)
    (open_told (view_of c.args.self.now) t c.open.new.draft.labels (statements c.open.new.draft) c.open.new.opened c.in_ok-node.node
    c.in_ok-node.ensures.interns c.in_ok-node.ensures.statements c.in_ok-node.ensures.opens h)
