use Rattle.ground_parts.proofs.SameHashes.{related_hashes_go_by_nodes}
use Rattle.ground_parts.proofs.laws.related_hashes_go_by_nodes.Goals as goal

pub returns : goal.returns
returns c = related_hashes_go_by_nodes
