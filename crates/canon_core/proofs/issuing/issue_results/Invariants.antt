use Rattle.std.proofs.Common.{◌≡◌, take}
use Rattle.canon_model.specs.Allowed.{issue_results}
use Rattle.canon_core.proofs.issuing.issue_results.Given as goal

abbrev pub invariant-loop-result : goal.invariant-loop-result
invariant-loop-result l = record {
  list : l.canon.list ≡ issue_results l.fn.canon.list (take l.result-index l.results);
  prefix : l.canon.prefix ≡ l.fn.canon.prefix;
}
