use Rattle.ground_parts.proofs.MergedTexts.{chosen_form_is_merge}
use Rattle.ground_parts.proofs.laws.chosen_form_is_merge.Goals as goal

pub returns : goal.returns
returns c = chosen_form_is_merge
