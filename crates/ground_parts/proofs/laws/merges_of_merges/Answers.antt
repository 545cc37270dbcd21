use Rattle.ground_parts.proofs.Merging.{merges_of_merges}
use Rattle.ground_parts.proofs.laws.merges_of_merges.Goals as goal

pub returns : goal.returns
returns c = merges_of_merges
