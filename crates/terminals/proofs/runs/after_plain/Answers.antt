use Rattle.terminals.proofs.Plain.{cut_behind_plain}
use Rattle.terminals.proofs.runs.after_plain.Goals as goal

pub range_from-requires : goal.range_from-requires
range_from-requires c =
    λ _. cut_behind_plain c.args.body c.args.text.now c.plain_len.result c.utf8.text c.plain_len.ensures.is c.plain_len.ensures.within
