use Rattle.char_tables.specs.Classes.{is_ascii_pn}
use Rattle.terminals.proofs.Labelling.{pn_ascii}
use Rattle.terminals.proofs.Tagging.{cut_behind_passing}
use Rattle.terminals.proofs.labels.after_ascii.Goals as goal

pub range_from-requires : goal.range_from-requires
range_from-requires c =
    λ _. cut_behind_passing is_ascii_pn pn_ascii c.args.text.now c.ascii_len.result c.utf8.text c.ascii_len.ensures.is c.ascii_len.ensures.within
