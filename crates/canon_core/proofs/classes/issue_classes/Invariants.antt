use Rattle.std.proofs.Common.{◌≡◌, ◌-◌, ◌≤◌, drop, length}
use Rattle.rdf_terms.specs.Document.{dataset}
use Rattle.rdf_terms.specs.declared.term.Prefix.TheVariants.{Canonical}
use Rattle.canon_model.specs.FirstDegree.{hash_first_degree_quads}
use Rattle.canon_model.specs.Meaning.{meaning}
use Rattle.canon_core.specs.Classes.{IsCanonicalSoFar, run_from}
use Rattle.canon_core.specs.HashOrder.{IsRanked}
use Rattle.canon_core.proofs.OnTheWay.{IsOnTheWay}
use Rattle.canon_core.proofs.classes.issue_classes.Given as goal

abbrev pub invariant-loop-start : goal.invariant-loop-start
invariant-loop-start l = record {
  within : l.start ≤ length l.nodes;
  ranked : IsRanked (hash_first_degree_quads (meaning l.profile) (dataset l.dataset)) (length l.dataset.labels) (drop l.start l.nodes);
  issued : IsCanonicalSoFar (dataset l.dataset) l.canon.list;
  prefix : l.canon.prefix ≡ Canonical;
  few_ties : l.ties.total ≤ l.budget.spent;
  limit : l.budget.limit ≡ l.fn.budget.limit;
  way : IsOnTheWay (dataset l.dataset) (run_from (meaning l.profile) (dataset l.dataset) l.nodes l.fn.canon.list)
      (run_from (meaning l.profile) (dataset l.dataset) (drop l.start l.nodes) l.canon.list) l.fn.budget.spent l.budget.spent l.fn.ties l.ties;
}

abbrev pub decreases-loop-start : goal.decreases-loop-start
decreases-loop-start l = length l.nodes - l.start
