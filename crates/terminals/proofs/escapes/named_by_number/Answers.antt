use Rattle.std.proofs.Common.{arith}
use Rattle.terminals.proofs.Escaping.{cut_behind_digits}
use Rattle.terminals.proofs.escapes.named_by_number.Goals as goal

pub range_from-requires : goal.range_from-requires
range_from-requires c = λ _. cut_behind_digits c.args.text.now c.args.count c.utf8.text (omega arith) (rw c.as_bytes.ensures.value at c.in_ok-number.ensures.found_hex)
