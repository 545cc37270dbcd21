use Rattle.ground_parts.proofs.SameSymmetries.{symmetries_go_by_nodes}
use Rattle.ground_parts.proofs.laws.symmetries_go_by_nodes.Goals as goal

pub returns : goal.returns
returns c = symmetries_go_by_nodes
