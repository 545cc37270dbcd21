-- The table is held against the class at each of the 256 bytes, by computing.
use Rattle.std.proofs.Common.{refl, arith}
use Rattle.char_tables.specs.Classes.{is_ascii_pn}
use Rattle.char_tables.specs.declared.classes.TheConstants.{PN_BYTES}
use Rattle.char_tables.proofs.ByteTables.{is_open-get_or}
use Rattle.char_tables.proofs.classes.is_pn_byte.Goals as goal

pub returns : goal.returns
returns c = is_open-get_or is_ascii_pn PN_BYTES c.args.byte (omega arith) refl refl
