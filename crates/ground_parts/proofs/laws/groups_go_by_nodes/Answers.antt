use Rattle.ground_parts.proofs.SameHashes.{groups_go_by_nodes}
use Rattle.ground_parts.proofs.laws.groups_go_by_nodes.Goals as goal

pub returns : goal.returns
returns c = groups_go_by_nodes
