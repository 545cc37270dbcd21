use Rattle.ground_parts.proofs.Merging.{merges_are_one}
use Rattle.ground_parts.proofs.laws.merges_are_one.Goals as goal

pub returns : goal.returns
returns c = merges_are_one
