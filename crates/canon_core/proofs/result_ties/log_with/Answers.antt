use Rattle.std.proofs.Common.{◌+◌, ◌∙◌, ap, arith, drop, subst, sym}
use Rattle.rdf_terms.specs.Document.{dataset as dataset_of}
use Rattle.canon_model.specs.CountedRun.{ties_with}
use Rattle.ndegree_hash.specs.Log.{LoggedTies, Logs}
use Rattle.tie_witness.specs.Witness.{MayBeChecked}
use Rattle.canon_core.proofs.LoggingResults.{from_place, logged-other, logged-same, may-log}
use Rattle.canon_core.proofs.result_ties.log_with.Goals as goal
use Rattle.canon_core.proofs.result_ties.log_with.Goals.{then-has_hash_of+in_ok-log, else-has_hash_of}

pub log-requires-clause-lists : goal.log-requires-clause-lists
log-requires-clause-lists c =
    let D = dataset_of c.args.dataset.now in
    let canon = c.args.canon.now.list in
    subst (λ right. MayBeChecked D canon 0 c.list.result.now right) (sym c.list-then-has_hash_of.ensures)
    (subst (λ left. MayBeChecked D canon 0 left c.result-item.result.issuer) (sym c.list.ensures)
    (may-log D (ties_with canon c.args.first.now c.args.others.now) canon c.loop-result.head.now c.result-item.result (drop (c.loop-result.result-index + 1) c.args.others.now)
    (drop c.loop-result.result-index c.args.others.now) c.args.ties.now c.loop-result.ties c.requires.may
    (from_place c.args.others.now c.loop-result.result-index c.result-item.result c.loop-result-test.true c.result-item.is)
    (sym c.has_hash_of.ensures ∙ c.if-has_hash_of.true) c.loop-result.invariant.logs))

pub loop-result-preserved : goal.loop-result-preserved
loop-result-preserved c =
    let D = dataset_of c.args.dataset.now in
    let canon = c.args.canon.now.list in
    let whole = ties_with canon c.args.first.now c.args.others.now in
    let rest = drop (c.loop-result.result-index + 1) c.args.others.now in
    let here = from_place c.args.others.now c.loop-result.result-index c.result-item.result c.loop-result-test.true c.result-item.is in
    let kept = c.loop-result.invariant in
    elim c.if-has_hash_of.branch [
      | then-has_hash_of+in_ok-log w ↦ (
          let l : Logs D (record { canon = canon; passed = 0; left = c.loop-result.head.now.issuer; right = c.result-item.result.issuer }) c.loop-result.ties w.log.new.self =
          subst (λ left. Logs D (record { canon = canon; passed = 0; left = left; right = c.result-item.result.issuer }) c.loop-result.ties w.log.new.self) w.list.ensures
          (subst (λ right. Logs D
          (record { canon = canon; passed = 0; left = w.list.result.now; right = right }) c.loop-result.ties w.log.new.self) w.list-then-has_hash_of.ensures w.in_ok-log.ensures.logged) in
          let logs = logged-same D whole canon c.loop-result.head.now c.result-item.result rest
          (drop c.loop-result.result-index c.args.others.now) c.args.ties.now c.loop-result.ties w.log.new.self here (sym c.has_hash_of.ensures ∙ w.if-has_hash_of.true) l kept.logs in
          record {
            logs = rw (w.head-is, w.ties-is) logs;
            most = let t = ap (λ (x : LoggedTies). x.total) w.ties-is in let n = l.total in let m = kept.most in omega arith;
          }
          )
      | else-has_hash_of w ↦ (
          let logs = logged-other D whole canon c.loop-result.head.now c.result-item.result rest (drop c.loop-result.result-index c.args.others.now) c.args.ties.now c.loop-result.ties here
          (sym c.has_hash_of.ensures ∙ w.if-has_hash_of.false) kept.logs in
          record {
            logs = rw (w.head-is, w.ties-is) logs;
            most = let t = ap (λ (x : LoggedTies). x.total) w.ties-is in let m = kept.most in omega arith;
          }
          )
    ]
