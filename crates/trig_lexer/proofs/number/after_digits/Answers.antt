use Rattle.trig_lexer.proofs.Digits.{cut_behind_digits, digits_found}
use Rattle.trig_lexer.proofs.number.after_digits.Goals as goal

pub range_from-requires : goal.range_from-requires
range_from-requires c = λ _. cut_behind_digits c.args.text.now c.digits_len.result c.utf8.text c.digits_len.ensures.is c.digits_len.ensures.within

pub returns : goal.returns
returns c = digits_found c.args.text.now _ c.digits_len.result c.digits_len.ensures.is c.range_from.ensures.value
