use Rattle.std.proofs.Common.{◌+◌, ◌≤◌, drop}
use Rattle.rdf_terms.specs.Document.{dataset}
use Rattle.canon_model.specs.CountedRun.{ties_with}
use Rattle.canon_core.proofs.LoggingResults.{IsLoggedSoFar}
use Rattle.canon_core.proofs.result_ties.log_with.Given as goal

abbrev pub invariant-loop-result : goal.invariant-loop-result
invariant-loop-result l = record {
  logs : IsLoggedSoFar (dataset l.dataset) (ties_with l.canon.list l.first l.others) (ties_with l.canon.list l.head (drop l.result-index l.others)) l.fn.ties l.ties;
  most : l.ties.total ≤ l.fn.ties.total + l.result-index;
}
