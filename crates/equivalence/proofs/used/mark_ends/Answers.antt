use Rattle.map_search.specs.Marks.{mark_at}
use Rattle.equivalence.proofs.Using.{marked_ends}
use Rattle.equivalence.proofs.used.mark_ends.Goals as goal

pub returns : goal.returns
returns c k =
    marked_ends c.args.graph.now c.args.triple k (mark_at c.args.marks.now k) (mark_at c.mark_node.new.marks k) (mark_at c.mark_node-2.new.marks k) c.node_of.result c.node_of-2.result
    (c.requires.one.unnamed c.args.triple c.requires.there) c.node_of.ensures.node c.node_of-2.ensures.node (c.mark_node.ensures k) (c.mark_node-2.ensures k)
