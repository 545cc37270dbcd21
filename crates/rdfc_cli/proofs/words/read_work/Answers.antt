use Rattle.std.proofs.Common.{map, string_bytes}
use Rattle.rdfc_cli.proofs.OptionWords.{if_none}
use Rattle.rdfc_cli.proofs.CommandWords.{not_spelled-work}
use Rattle.rdfc_cli.proofs.words.read_work.Goals as goal

pub returns-in_err-work-clause-none : goal.returns-in_err-work-clause-none
returns-in_err-work-clause-none c = if_none _ (not_spelled-work c.args.word.now (map string_bytes c.args.operands.now) c.in_err-work.ensures.none)
