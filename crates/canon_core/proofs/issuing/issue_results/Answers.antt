use Rattle.std.proofs.Common.{◌∙◌, ap}
use Rattle.canon_model.specs.Issuer.{issue_each}
use Rattle.canon_core.proofs.IssuingEach.{issue_results-more}
use Rattle.canon_core.proofs.issuing.issue_results.Goals as goal

pub loop-result-preserved : goal.loop-result-preserved
loop-result-preserved c = record {
  list =
      issue_results-more c.args.canon.now.list c.loop-result.canon.list c.issue_all.new.issuer.list c.args.results.now c.loop-result.result-index c.result-item.result c.loop-result-test.true
      c.result-item.is c.loop-result.invariant.list
      (c.in_ok-issue_all.ensures.list ∙ ap (issue_each c.loop-result.canon.list) c.list.ensures);
  prefix = c.issue_all.ensures.prefix ∙ c.loop-result.invariant.prefix;
}
