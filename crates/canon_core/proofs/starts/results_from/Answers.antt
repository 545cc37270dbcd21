use Rattle.std.proofs.Common.{◌+◌, ◌<◌, ◌∙◌, arith, get_or, rules}
use Rattle.rdf_terms.specs.Document.{dataset as dataset_of}
use Rattle.canon_model.specs.CountedRun.{counted_start}
use Rattle.canon_model.specs.Meaning.{meaning}
use Rattle.canon_core.proofs.StartTraces.{next-results, next-ties, next-units, over-start}
use Rattle.canon_core.proofs.starts.results_from.Goals as goal

pub returns-in_err-found-clause-over : goal.returns-in_err-found-clause-over
returns-in_err-found-clause-over c = λ e.
    let over : c.loop-node.budget.limit < c.loop-node.budget.spent + (counted_start (meaning c.args.profile) (dataset_of c.args.dataset.now) c.args.canon.now.list
    (get_or c.args.nodes.now c.loop-node.node-index 0)).trace.units = search rules in
    let kept = c.loop-node.invariant.limit in
    let all = over-start (meaning c.args.profile)
    (dataset_of c.args.dataset.now) c.args.canon.now.list c.args.nodes.now c.loop-node.node-index 0 c.loop-node-test.true c.args.budget.now.spent c.loop-node.budget.spent c.loop-node.budget.limit
    c.loop-node.invariant.spent over in
    omega arith

pub loop-node-preserved : goal.loop-node-preserved
loop-node-preserved c =
    let kept = c.loop-node.invariant in
    record {
      few_ties = let f = c.in_ok-found.ensures.fewer in let r = kept.few_ties in omega arith;
      limit = c.result_from.ensures.limit ∙ kept.limit;
      are =
          next-results (meaning c.args.profile)
          (dataset_of c.args.dataset.now) c.args.canon.now.list c.args.nodes.now c.loop-node.node-index 0 c.loop-node-test.true c.loop-node.results.items c.keep.new.results.items c.in_ok-found.found
          kept.are c.in_ok-found.ensures.is c.in_ok-keep.ensures;
      spent =
          next-units (meaning c.args.profile)
          (dataset_of c.args.dataset.now) c.args.canon.now.list c.args.nodes.now c.loop-node.node-index 0 c.loop-node-test.true c.args.budget.now.spent c.loop-node.budget.spent
          c.result_from.new.budget.spent kept.spent c.in_ok-found.ensures.spent;
      ties =
          next-ties (meaning c.args.profile)
          (dataset_of c.args.dataset.now) c.args.canon.now.list c.args.nodes.now c.loop-node.node-index 0 c.loop-node-test.true c.args.ties.now c.loop-node.ties c.result_from.new.ties kept.ties
          c.in_ok-found.ensures.ties;
    }
