use Rattle.std.proofs.Common.{◌≡◌, ℕ, ◌<◌, length, get_or}
use Rattle.lean_search.specs.Steps.{IsNodeMapped}
use Rattle.lean_search.proofs.search.nodes_mapped.Given as goal

abbrev pub invariant-loop-node : goal.invariant-loop-node
invariant-loop-node l = record {
  count : length l.map.items ≡ l.node;
  each : (n : ℕ) → n < l.node → IsNodeMapped l.graph l.to n (get_or l.map.items n 0);
}
