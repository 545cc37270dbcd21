use Rattle.std.proofs.Common.{true≢false, sym, ◌∙◌, ◌++◌, take, arith}
use Rattle.std.proofs.KnownBytes.{Appends-trans, Appends-kept}
use Rattle.std.proofs.lemmas.Result.{err_from_is_err_and}
use Rattle.rdfc_cli.proofs.Putting.{some_left, cut}
use Rattle.rdfc_cli.proofs.write.put_all.Goals as goal
use Rattle.rdf_terms.proofs.MadeLists.{rest_all}

pub loop-rest-preserved : goal.loop-rest-preserved
loop-rest-preserved g c =
    let t = c.loop-rest.invariant.taken in record {
      taken = rw (rest_all c.in_ok-count.count c.loop-rest.rest.now) (
        t.0 ++ take c.in_ok-count.count c.loop-rest.rest.now,
        cut t.0 c.loop-rest.rest.now c.args.bytes.now c.in_ok-count.count t.1,
        Appends-trans _ _ _ t.0 (take c.in_ok-count.count c.loop-rest.rest.now) t.2 c.in_ok-count.ensures.bytes,
      );
      never_fell = omega (arith, c.loop-rest.invariant.never_fell, c.put.ensures.cause.never_fell);
    }

pub returns-in_err-count-clause-bytes : goal.returns-in_err-count-clause-bytes
returns-in_err-count-clause-bytes g c =
    let p = err_from_is_err_and c.from_residual.result c.from_residual.ensures.1 in
    let t = c.loop-rest.invariant.taken in
    rw p.1 (record {
      front = t.0;
      rest = c.loop-rest.rest.now;
      parts = t.1;
      some = some_left c.loop-rest.rest.now (λ t. true≢false (sym t ∙ sym c.is_empty.ensures ∙ c.loop-rest-test.true));
      appends = Appends-kept _ _ _ t.0 t.2 c.in_err-count.ensures.bytes;
    })
