use Rattle.std.proofs.Common.{◌+◌, ◌<◌, ◌≤◌, ◌≡◌}
use Rattle.rdf_terms.specs.Document.{dataset as dataset_of}
use Rattle.canon_model.specs.Meaning.{meaning}
use Rattle.canon_model.specs.CountedRun.{counted_call}
use Rattle.ndegree_hash.specs.KnownNodes.{IsKnown, IsTrail}
use Rattle.ndegree_hash.specs.OwedTies.{owed}
use Rattle.ndegree_hash.proofs.MachineState.{AllKnown, IsRunning, owed_below, work_left}
use Rattle.ndegree_hash.proofs.machine.run.Given as goal

abbrev pub invariant-loop-at : goal.invariant-loop-at
invariant-loop-at l = record {
  running : IsRunning (meaning l.profile) (dataset_of l.dataset) (counted_call (meaning l.profile) (dataset_of l.dataset) l.canon.list) l.canon.list
      (counted_call (meaning l.profile) (dataset_of l.dataset) l.canon.list l.node l.fn.trail.list) (record { spent = l.fn.budget.spent; log = l.fn.ties }) l.trail.list l.below.items l.frame l.at
      (record { spent = l.budget.spent; log = l.ties });
  known : IsKnown (dataset_of l.dataset) l.canon.list l.trail.list l.frame;
  below : AllKnown (dataset_of l.dataset) l.canon.list l.trail.list l.below.items;
  trail : IsTrail (dataset_of l.dataset) l.canon.list l.trail.list;
  owes : l.ties.total + owed_below l.below.items + owed l.frame l.at + l.fn.budget.spent < l.budget.spent + l.fn.ties.total;
  within : l.budget.spent ≤ l.budget.limit;
  limit : l.budget.limit ≡ l.fn.budget.limit;
  grown : l.fn.budget.spent ≤ l.budget.spent;
  prefix : l.trail.prefix ≡ l.fn.trail.prefix;
}

abbrev pub decreases-loop-at : goal.decreases-loop-at
decreases-loop-at l = work_left l.budget.limit l.budget.spent l.below.items l.at
