use Rattle.ground_parts.proofs.SameSymmetries.{joins_go_by_nodes}
use Rattle.ground_parts.proofs.laws.joins_go_by_nodes.Goals as goal

pub returns : goal.returns
returns c = joins_go_by_nodes
