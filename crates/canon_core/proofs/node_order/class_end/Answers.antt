use Rattle.std.proofs.Common.{◌+◌, ◌≤◌, length, rules}
use Rattle.canonical_writer.proofs.NumberOrder.{slice_from}
use Rattle.canon_core.proofs.ClassSplit.{end-after, end-behind, end-class, end-within}
use Rattle.canon_core.proofs.node_order.class_end.Goals as goal

pub overflow_add-result : goal.overflow_add-result
overflow_add-result c =
    let within : c.args.start + c.class_len.result ≤ length c.args.nodes.now = end-within c.args.nodes.now _ c.args.start c.class_len.result c.requires
    (slice_from c.args.start c.args.nodes.now) c.class_len.ensures in
    search rules

pub returns-clause-after : goal.returns-clause-after
returns-clause-after c = end-after c.args.nodes.now _ c.args.start c.class_len.result c.requires (slice_from c.args.start c.args.nodes.now) c.class_len.ensures

pub returns-clause-within : goal.returns-clause-within
returns-clause-within c = end-within c.args.nodes.now _ c.args.start c.class_len.result c.requires (slice_from c.args.start c.args.nodes.now) c.class_len.ensures

pub returns-clause-class : goal.returns-clause-class
returns-clause-class c = end-class c.args.nodes.now _ c.args.start c.class_len.result c.requires (slice_from c.args.start c.args.nodes.now) c.class_len.ensures

pub returns-clause-behind : goal.returns-clause-behind
returns-clause-behind c = end-behind c.args.nodes.now _ c.args.start c.class_len.result c.requires (slice_from c.args.start c.args.nodes.now) c.class_len.ensures
