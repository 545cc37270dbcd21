use Rattle.std.proofs.Common.{◌≡◌, length}
use Rattle.dataset_index.specs.NodeTerms.{NumbersNodes}
use Rattle.dataset_index.proofs.node_terms.node_terms.Given as goal

abbrev pub invariant-loop-number : goal.invariant-loop-number
invariant-loop-number l = (length l.numbers.items ≡ l.nodes) × NumbersNodes l.terms l.numbers.items l.number
