use Rattle.std.proofs.Common.{◌≡◌, map, take}
use Rattle.dataset_index.specs.HeldNodes.{held_for}
use Rattle.dataset_index.proofs.term_nodes.numbers_held.Given as goal

abbrev pub invariant-loop-number : goal.invariant-loop-number
invariant-loop-number l = l.held.items ≡ map held_for (take l.number l.terms)
