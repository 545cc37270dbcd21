-- The table is held against the class at each of the 256 bytes, by computing.
use Rattle.std.proofs.Common.{refl, arith}
use Rattle.char_tables.specs.Classes.{may_stand_in_iriref}
use Rattle.char_tables.specs.declared.classes.TheConstants.{IRI_BYTES}
use Rattle.char_tables.proofs.ByteTables.{is_open-get_or}
use Rattle.char_tables.proofs.classes.is_iri_byte.Goals as goal

pub returns : goal.returns
returns c = is_open-get_or may_stand_in_iriref IRI_BYTES c.args.byte (omega arith) refl refl
