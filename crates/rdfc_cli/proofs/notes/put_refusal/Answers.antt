use Rattle.std.proofs.lemmas.Result.{err_from_is_err_and}
use Rattle.rdfc_cli.specs.Notes.{cause_text}
use Rattle.rdfc_cli.proofs.Putting.{IsCutShort-append, Puts-behind}
use Rattle.rdfc_cli.proofs.notes.put_refusal.Goals as goal

pub returns-in_err-put_all-clause-bytes : goal.returns-in_err-put_all-clause-bytes
returns-in_err-put_all-clause-bytes g c =
    let p = err_from_is_err_and c.from_residual.result c.from_residual.ensures.1 in
    rw (p.1, ← c.as_bytes.ensures.value) (IsCutShort-append _ _ c.as_bytes.result.now (cause_text c.args.cause) c.in_err-put_all.ensures.bytes)

pub returns-clause-bytes : goal.returns-clause-bytes
returns-clause-bytes g c =
    rw (← c.as_bytes.ensures.value) (Puts-behind _ _ _ _ c.as_bytes.result.now (cause_text c.args.cause) c.in_ok-put_all.ensures.bytes c.put_cause.ensures.bytes)
