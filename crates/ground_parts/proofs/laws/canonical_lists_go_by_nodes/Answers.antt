use Rattle.ground_parts.proofs.SameOutcomes.{canonical_lists_go_by_nodes}
use Rattle.ground_parts.proofs.laws.canonical_lists_go_by_nodes.Goals as goal

pub returns : goal.returns
returns c = canonical_lists_go_by_nodes
