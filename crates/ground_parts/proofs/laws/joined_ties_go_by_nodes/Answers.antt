use Rattle.ground_parts.proofs.SameSymmetries.{joined_ties_go_by_nodes}
use Rattle.ground_parts.proofs.laws.joined_ties_go_by_nodes.Goals as goal

pub returns : goal.returns
returns c = joined_ties_go_by_nodes
