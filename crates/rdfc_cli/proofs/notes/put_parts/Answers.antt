use Rattle.std.proofs.Common.{arith}
use Rattle.std.proofs.lemmas.Result.{err_from_is_err_and}
use Rattle.rdfc_cli.specs.Notes.{part_text}
use Rattle.rdfc_cli.proofs.Putting.{IsPutTo-next, IsPutTo-cut}
use Rattle.rdfc_cli.proofs.notes.put_parts.Goals as goal

pub loop-part-preserved : goal.loop-part-preserved
loop-part-preserved g c = record {
  put = IsPutTo-next part_text _ _ _ c.args.parts.now c.loop-part.part-index _ c.loop-part-test.true c.loop-part.invariant.put c.in_ok-put_part.ensures.bytes;
  never_fell = omega (arith, c.loop-part.invariant.never_fell, c.put_part.ensures.cause.never_fell);
}

pub returns-in_err-put_part-clause-bytes : goal.returns-in_err-put_part-clause-bytes
returns-in_err-put_part-clause-bytes g c =
    let p = err_from_is_err_and c.from_residual.result c.from_residual.ensures.1 in
    rw p.1 (IsPutTo-cut part_text _ _ _ c.args.parts.now c.loop-part.part-index _ c.loop-part-test.true c.loop-part.invariant.put c.in_err-put_part.ensures.bytes)
