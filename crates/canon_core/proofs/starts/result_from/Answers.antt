use Rattle.std.proofs.Common.{arith}
use Rattle.canon_core.proofs.starts.result_from.Goals as goal

pub fresh_issuer-requires : goal.fresh_issuer-requires
fresh_issuer-requires c =
    let low = c.requires.start.temporary_nodes c.args.node c.requires.start.listed in
    let bound = c.node_count-nodes.ensures.document.draft.labels_bound in
    omega arith
