use Rattle.ground_parts.proofs.MergedTexts.{outputs_are_merges}
use Rattle.ground_parts.proofs.laws.outputs_are_merges.Goals as goal

pub returns : goal.returns
returns c = outputs_are_merges
