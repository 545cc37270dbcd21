use Rattle.std.proofs.Common.{arith}
use Rattle.std.specs.Char.{is_ascii_alphabetic}
use Rattle.terminals.proofs.Tagging.{alphabetic_ascii, utf8_behind_mark, cut_behind_passing, cut_behind_tag, tag_found}
use Rattle.terminals.proofs.tags.langtag.Goals as goal

pub range_from-requires : goal.range_from-requires
range_from-requires c =
    λ _. cut_behind_passing is_ascii_alphabetic alphabetic_ascii c.in_ok-tag.tag.now c.letters_len-len.result
    (utf8_behind_mark c.args.text.now c.in_ok-tag.tag.now 64 (omega arith) c.in_ok-tag.ensures.found c.utf8.text)
    c.letters_len-len.ensures.is c.letters_len-len.ensures.within

pub range-requires-clause-end_boundary : goal.range-requires-clause-end_boundary
range-requires-clause-end_boundary c =
    cut_behind_tag c.args.text.now c.in_ok-tag.tag.now c.range_from.result.now c.after_subtags-rest.result.now c.letters_len-len.result
    c.in_ok-tag.ensures.found c.letters_len-len.ensures.is c.range_from.ensures.value c.after_subtags-rest.ensures c.after_subtags-rest.utf8

pub returns-clause-found : goal.returns-clause-found
returns-clause-found c =
    tag_found c.args.text.now c.in_ok-tag.tag.now c.range_from.result.now c.after_subtags-rest.result.now c.letters_len-len.result
    c.in_ok-tag.ensures.found c.letters_len-len.ensures.is c.range_from.ensures.value c.after_subtags-rest.ensures _ c.range.ensures.value c.if-len-eq0.false c.after_subtags-rest.utf8
