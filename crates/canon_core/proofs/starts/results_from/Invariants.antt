use Rattle.std.proofs.Common.{◌≡◌, ◌+◌, ◌≤◌, map, take}
use Rattle.rdf_terms.specs.Document.{dataset}
use Rattle.canon_model.specs.CountedRun.{result_of, trace_of_starts}
use Rattle.canon_model.specs.Meaning.{meaning}
use Rattle.ndegree_hash.specs.Log.{LogsAll}
use Rattle.canon_core.proofs.starts.results_from.Given as goal

abbrev pub invariant-loop-node : goal.invariant-loop-node
invariant-loop-node l = record {
  few_ties : l.ties.total + l.node-index ≤ l.budget.spent;
  limit : l.budget.limit ≡ l.fn.budget.limit;
  are : l.results.items ≡ map (result_of (meaning l.profile) (dataset l.dataset) l.canon.list) (take l.node-index l.nodes);
  spent : l.budget.spent ≡ l.fn.budget.spent + (trace_of_starts (meaning l.profile) (dataset l.dataset) l.canon.list (take l.node-index l.nodes)).units;
  ties : LogsAll (dataset l.dataset) (trace_of_starts (meaning l.profile) (dataset l.dataset) l.canon.list (take l.node-index l.nodes)).ties l.fn.ties l.ties;
}
