use Rattle.std.proofs.Common.{subst, ◌≤◌, length, IfOk, IfErr, ◌∙◌}
use Rattle.std.proofs.lemmas.Result.{err_from_is_err_and}
use Rattle.std.specs.Option.{option_copied}
use Rattle.rdf_terms.specs.Document.{Document, statements}
use Rattle.rdfc_cli.specs.Answers.{States, seen}
use Rattle.rdfc_cli.specs.FileFaults.{IsTextFault}
use Rattle.rdfc_cli.specs.Words.Syntax.{trig}
use Rattle.rdfc_cli.specs.declared.files.TheConstants.{FILE_LIMIT}
use Rattle.rdfc_cli.proofs.Reading.{ok_as_told, fault_as_told}
use Rattle.rdfc_cli.proofs.dataset_file.read_sentences.Goals as goal

pub returns-clause-stated : goal.returns-clause-stated
returns-clause-stated g c =
    let syntax = trig (option_copied c.args.base) in
    let fed = c.in_ok-bytes.ensures.fed in
    let read : length fed.bytes ≤ FILE_LIMIT → IfOk c.document_of_trig.result (λ parsed. States syntax fed.bytes parsed.labels (statements parsed)) =
    subst (λ b. length b ≤ FILE_LIMIT → IfOk c.document_of_trig.result (λ parsed. States syntax b parsed.labels (statements parsed)))
    (c.deref.ensures.value ∙ fed.holds) c.document_of_trig.ensures.stated in
    ok_as_told _ fed.bytes (λ all (parsed : Document). States syntax all parsed.labels (statements parsed)) fed.whole c.document_of_trig.result (read fed.within)

pub returns-clause-fault : goal.returns-clause-fault
returns-clause-fault g c =
    let syntax = trig (option_copied c.args.base) in
    let fed = c.in_ok-bytes.ensures.fed in
    let read : length fed.bytes ≤ FILE_LIMIT → IfErr c.document_of_trig.result (IsTextFault syntax fed.bytes) =
    subst (λ b. length b ≤ FILE_LIMIT → IfErr c.document_of_trig.result (IsTextFault syntax b)) (c.deref.ensures.value ∙ fed.holds) c.document_of_trig.ensures.fault in
    fault_as_told (seen syntax g.S.Shelf.told g.S.Shelf.faults c.args.shelf.now c.feed_file.new.shelf c.args.file.now) fed.bytes fed.whole c.document_of_trig.result (read fed.within)

pub returns-in_err-bytes-clause-fault : goal.returns-in_err-bytes-clause-fault
returns-in_err-bytes-clause-fault g c =
    let p = err_from_is_err_and c.from_residual.result c.from_residual.ensures.1 in
    rw (p.1, p.2) (c.in_err-bytes.ensures.fault (trig (option_copied c.args.base)))
