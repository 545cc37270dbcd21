use Rattle.std.proofs.Common.{◌+◌, ◌≤◌, length, rules}
use Rattle.canon_core.proofs.ClassSplit.{class_len-first, class_len-most}
use Rattle.canon_core.proofs.node_order.class_len.Goals as goal

pub overflow_add-result : goal.overflow_add-result
overflow_add-result c =
    let most : 1 + c.same_len.result ≤ length c.args.nodes.now = class_len-most c.args.nodes.now c.index-nodes-0.result c.same_len.result c.requires c.index-nodes-0.is c.same_len.ensures in
    search rules

pub returns : goal.returns
returns c = class_len-first c.args.nodes.now c.index-nodes-0.result c.same_len.result c.requires c.index-nodes-0.is c.same_len.ensures
