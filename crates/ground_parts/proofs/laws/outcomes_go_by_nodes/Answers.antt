use Rattle.ground_parts.proofs.SameOutcomes.{outcomes_go_by_nodes}
use Rattle.ground_parts.proofs.laws.outcomes_go_by_nodes.Goals as goal

pub returns : goal.returns
returns c = outcomes_go_by_nodes
