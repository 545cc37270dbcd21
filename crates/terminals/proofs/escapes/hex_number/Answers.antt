use Rattle.std.proofs.Common.{◌≡◌, ◌+◌, ◌*◌, take, subst, sym, ap, ◌∙◌, arith, get_or, true, length-take}
use Rattle.std.specs.Str.Parse.{digits_value}
use Rattle.std.proofs.lemmas.Int.Digits.{digits_value_more}
use Rattle.std.proofs.lemmas.List.{take_more}
use Rattle.std.proofs.lemmas.List.Elements.{All-push}
use Rattle.char_tables.specs.Rows.{is_in}
use Rattle.char_tables.specs.Classes.{hex}
use Rattle.terminals.proofs.Escaping.{AllHex, digits_value-room}
use Rattle.terminals.proofs.escapes.hex_number.Goals as goal

pub overflow_mul-number : goal.overflow_mul-number
overflow_mul-number c =
    let front = take c.loop-digit.digit-index c.args.digits.now in
    let room = digits_value-room front c.loop-digit.invariant.all_hex (omega (arith, length-take c.loop-digit.digit-index c.args.digits.now)) in
    omega (arith, c.loop-digit.invariant.value)

pub overflow_add-number : goal.overflow_add-number
overflow_add-number c =
    let front = take c.loop-digit.digit-index c.args.digits.now in
    let room = digits_value-room front c.loop-digit.invariant.all_hex (omega (arith, length-take c.loop-digit.digit-index c.args.digits.now)) in
    omega (arith, c.loop-digit.invariant.value, c.in_ok-number.ensures.value.0, c.in_ok-number.ensures.value.1)

pub loop-digit-preserved : goal.loop-digit-preserved
loop-digit-preserved c =
    let digits = c.args.digits.now in
    let i = c.loop-digit.digit-index in
    let within = c.loop-digit-test.true in
    let next = get_or digits i 0 in
    let is_hex : is_in hex next ≡ true = sym c.is_hex.ensures ∙ c.if-not-is_hex.false in
    record {
      value = ap (λ n. n * 16 + c.in_ok-number.field-0) c.loop-digit.invariant.value
          ∙ ap (λ n. digits_value 16 (take i digits) * 16 + n) c.in_ok-number.ensures.value.1
          ∙ sym (digits_value_more 16 digits i within);
      all_hex = subst AllHex (sym (take_more digits i 0 within)) (All-push (λ d. is_in hex d ≡ true) (take i digits) next c.loop-digit.invariant.all_hex is_hex);
    }
