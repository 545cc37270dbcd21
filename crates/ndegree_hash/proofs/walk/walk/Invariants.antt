use Rattle.std.proofs.Common.{drop, ◌≡◌}
use Rattle.ndegree_hash.specs.PathChoice.{IsSameChoice, chosen_if}
use Rattle.ndegree_hash.specs.Walks.{IsWalking, KeepsTrail}
use Rattle.ndegree_hash.proofs.walk.walk.Given as goal

abbrev pub invariant-loop-node : goal.invariant-loop-node
invariant-loop-node l = record {
  walking : IsWalking l.canon.list l.fn.trail.list l.nodes (chosen_if l.fn.paths.has_choice l.fn.paths.chosen) l.trail.list l.paths.path (drop l.node-index l.nodes);
  choice : IsSameChoice l.fn.paths l.paths;
  sound : KeepsTrail l.canon.list l.nodes l.fn.trail.list l.trail.list;
  prefix : l.trail.prefix ≡ l.fn.trail.prefix;
}
