use Rattle.std.proofs.Common.{map, take, ◌+◌, ◌≡◌}
use Rattle.rdf_terms.specs.Document.{dataset as dataset_of}
use Rattle.ndegree_hash.specs.Closing.{tie_with}
use Rattle.ndegree_hash.specs.Log.{LogsInTurn}
use Rattle.ndegree_hash.proofs.groups.log_others.Given as goal

abbrev pub invariant-loop-other : goal.invariant-loop-other
invariant-loop-other l = record {
  logs : LogsInTurn (dataset_of l.dataset) (map (tie_with l.canon.list l.mark l.trail.list) (take l.other-index l.others)) l.fn.ties l.ties;
  total : l.ties.total ≡ l.fn.ties.total + l.other-index;
}
