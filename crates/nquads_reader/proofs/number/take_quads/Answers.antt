use Rattle.std.proofs.Common.{ap, arith, length}
use Rattle.std.proofs.lemmas.Slice.Zip.{AllZip-long}
use Rattle.std.proofs.lemmas.List.{length-map}
use Rattle.rdf_terms.proofs.Common.{statement, statement_of}
use Rattle.nquads_reader.specs.Document.{IsStatementOf}
use Rattle.nquads_reader.proofs.ManyQuads.{refs_valid}
use Rattle.nquads_reader.proofs.number.take_quads.Goals as goal

pub add_all-requires-clause-valid : goal.add_all-requires-clause-valid
add_all-requires-clause-valid c =
    rw c.deref.ensures.value (refs_valid c.statement_refs.new.draft.labels c.args.quads.now c.in_ok-refs.refs.items c.requires.valid c.in_ok-refs.ensures.numbers)

pub add_all-requires-clause-room : goal.add_all-requires-clause-room
add_all-requires-clause-room c =
    omega (
      arith,
      c.requires.room,
      c.deref.ensures.len,
      ap length c.deref.ensures.value,
      ap length c.in_ok-refs.ensures.statements,
      length-map c.statement_refs.new.draft.quads (statement c.statement_refs.new.draft.terms),
      AllZip-long (IsStatementOf c.statement_refs.new.draft.labels) c.args.quads.now _ c.in_ok-refs.ensures.numbers,
      length-map c.in_ok-refs.refs.items statement_of,
    )
