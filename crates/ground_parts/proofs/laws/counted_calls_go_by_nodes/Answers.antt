use Rattle.ground_parts.proofs.SameRuns.{counted_calls_go_by_nodes}
use Rattle.ground_parts.proofs.laws.counted_calls_go_by_nodes.Goals as goal

pub returns : goal.returns
returns c = counted_calls_go_by_nodes
