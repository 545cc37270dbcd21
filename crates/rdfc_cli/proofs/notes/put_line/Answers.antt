use Rattle.std.proofs.Common.{codes, [], ◌∷◌, ◌++◌}
use Rattle.std.proofs.lemmas.Result.{err_from_is_err_and}
use Rattle.rdfc_cli.specs.Notes.{status_text}
use Rattle.rdfc_cli.specs.Words.{file_word}
use Rattle.rdfc_cli.specs.Requests.{command_of}
use Rattle.rdfc_cli.proofs.Putting.{IsCutShort-append, IsCutShort-behind, Puts-behind}
use Rattle.rdfc_cli.proofs.notes.put_line.Goals as goal

pub returns-in_err-put_all-clause-bytes : goal.returns-in_err-put_all-clause-bytes
returns-in_err-put_all-clause-bytes g c =
    let p = err_from_is_err_and c.from_residual.result c.from_residual.ensures.1 in
    rw p.1 (IsCutShort-append _ _ (codes "rdfc: ") (status_text (file_word (command_of c.args.command.now)) c.args.status.now ++ 10 ∷ []) c.in_err-put_all.ensures.bytes)

pub returns-in_err-put_status-clause-bytes : goal.returns-in_err-put_status-clause-bytes
returns-in_err-put_status-clause-bytes g c =
    let p = err_from_is_err_and c.from_residual-in_err-put_status.result c.from_residual-in_err-put_status.ensures.1 in
    rw p.1 (IsCutShort-behind _ _ _ (codes "rdfc: ") (status_text (file_word (command_of c.args.command.now)) c.args.status.now ++ 10 ∷ []) c.in_ok-put_all.ensures.bytes
    (IsCutShort-append _ _ (status_text (file_word (command_of c.args.command.now)) c.args.status.now) (10 ∷ []) c.in_err-put_status.ensures.bytes))

pub returns-clause-bytes : goal.returns-clause-bytes
returns-clause-bytes g c =
    Puts-behind _ _ _ _ (codes "rdfc: ") (status_text (file_word (command_of c.args.command.now)) c.args.status.now ++ 10 ∷ []) c.in_ok-put_all.ensures.bytes
    (Puts-behind _ _ _ _ (status_text (file_word (command_of c.args.command.now)) c.args.status.now) (10 ∷ []) c.in_ok-put_status.ensures.bytes c.put_all-2.ensures.bytes)
