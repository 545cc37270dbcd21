use Rattle.ground_parts.proofs.SameHashes.{first_degree_hashes_go_by_nodes}
use Rattle.ground_parts.proofs.laws.first_degree_hashes_go_by_nodes.Goals as goal

pub returns : goal.returns
returns c = first_degree_hashes_go_by_nodes
