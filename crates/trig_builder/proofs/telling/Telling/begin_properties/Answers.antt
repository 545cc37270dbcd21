use Rattle.trig_terms.specs.Meaning.{begin_item, put_next, next_node}
use Rattle.trig_terms.specs.Meaning.Place.{AtVerb}
use Rattle.trig_builder.proofs.telling.Telling.begin_properties.Goals as goal

pub returns-clause-tells : goal.returns-clause-tells
returns-clause-tells c t h =
    let ready = c.in_ok-begin_item.ensures.tells t h in
    c.in_ok-enter.ensures.tells (put_next (begin_item t)) (AtVerb (next_node (begin_item t))) (c.in_ok-node.ensures.is (begin_item t) ready) (c.in_ok-node.ensures.tells (begin_item t) ready)
