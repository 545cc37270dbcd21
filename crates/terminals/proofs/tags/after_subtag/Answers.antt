use Rattle.std.proofs.Common.{arith}
use Rattle.std.specs.Char.{is_ascii_alphanumeric}
use Rattle.terminals.proofs.Tagging.{alphanumeric_ascii, utf8_behind_mark, cut_behind_passing, subtag_found}
use Rattle.terminals.proofs.tags.after_subtag.Goals as goal

pub range_from-requires : goal.range_from-requires
range_from-requires c =
    λ _. cut_behind_passing is_ascii_alphanumeric alphanumeric_ascii c.in_ok-subtag.subtag.now c.alphanumeric_len-len.result
    (utf8_behind_mark c.args.text.now c.in_ok-subtag.subtag.now 45 (omega arith) c.in_ok-subtag.ensures.found c.utf8.text)
    c.alphanumeric_len-len.ensures.is c.alphanumeric_len-len.ensures.within

pub returns-else-len-eq0-clause-found : goal.returns-else-len-eq0-clause-found
returns-else-len-eq0-clause-found c =
    subtag_found c.args.text.now c.in_ok-subtag.subtag.now _ c.alphanumeric_len-len.result c.in_ok-subtag.ensures.found c.alphanumeric_len-len.ensures.is c.if-len-eq0.false c.range_from.ensures.value
