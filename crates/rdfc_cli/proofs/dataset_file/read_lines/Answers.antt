use Rattle.rdf_terms.specs.Document.{Document, statements}
use Rattle.std.proofs.lemmas.Result.{err_from_is_err_and}
use Rattle.rdfc_cli.specs.Answers.{States, seen}
use Rattle.rdfc_cli.specs.Words.Syntax.{nquads}
use Rattle.rdfc_cli.proofs.Reading.{ok_as_told, fault_as_told}
use Rattle.rdfc_cli.proofs.dataset_file.read_lines.Goals as goal

pub returns-clause-stated : goal.returns-clause-stated
returns-clause-stated g c =
    let fed = c.in_ok-reader.ensures.fed in
    ok_as_told _ fed.bytes (λ all (parsed : Document). States nquads all parsed.labels (statements parsed)) fed.whole c.document_of_lines.result
    (c.document_of_lines.ensures.stated fed.bytes fed.within fed.holds)

pub returns-clause-fault : goal.returns-clause-fault
returns-clause-fault g c =
    let fed = c.in_ok-reader.ensures.fed in
    fault_as_told (seen nquads g.S.Shelf.told g.S.Shelf.faults c.args.shelf.now c.feed_file.new.shelf c.args.file.now) fed.bytes fed.whole c.document_of_lines.result
    (c.document_of_lines.ensures.fault fed.bytes fed.within fed.holds)

pub returns-in_err-reader-clause-fault : goal.returns-in_err-reader-clause-fault
returns-in_err-reader-clause-fault g c =
    let p = err_from_is_err_and c.from_residual.result c.from_residual.ensures.1 in
    rw (p.1, p.2) (c.in_err-reader.ensures.fault nquads)
