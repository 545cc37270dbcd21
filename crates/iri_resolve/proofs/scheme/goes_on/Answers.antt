-- The table is held against the class at each of the 256 bytes, by computing.
use Rattle.std.proofs.Common.{◌≡◌, map, refl, arith}
use Rattle.std.specs.List.{range_with_len}
use Rattle.char_tables.proofs.ByteTables.{is_open, is_open-get_or}
use Rattle.rdf_terms.specs.Terms.{is_scheme_byte}
use Rattle.iri_resolve.specs.declared.scheme.TheConstants.{SCHEME_BYTES}
use Rattle.iri_resolve.proofs.scheme.goes_on.Goals as goal

marks : map is_open SCHEME_BYTES ≡ map is_scheme_byte (range_with_len 0 256)
marks = refl

pub returns : goal.returns
returns c = is_open-get_or is_scheme_byte SCHEME_BYTES c.args.byte (omega arith) refl marks
