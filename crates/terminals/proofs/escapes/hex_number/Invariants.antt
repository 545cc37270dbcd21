use Rattle.std.proofs.Common.{◌≡◌, true, All, take}
use Rattle.std.specs.Str.Parse.{digits_value}
use Rattle.char_tables.specs.Rows.{is_in}
use Rattle.char_tables.specs.Classes.{hex}
use Rattle.terminals.proofs.escapes.hex_number.Given as goal

abbrev pub invariant-loop-digit : goal.invariant-loop-digit
invariant-loop-digit l = record {
  value : l.number ≡ digits_value 16 (take l.digit-index l.digits);
  all_hex : All (λ d. is_in hex d ≡ true) (take l.digit-index l.digits);
}
