use Rattle.ground_parts.proofs.SameRuns.{counted_runs_go_by_nodes}
use Rattle.ground_parts.proofs.laws.counted_runs_go_by_nodes.Goals as goal

pub returns : goal.returns
returns c = counted_runs_go_by_nodes
