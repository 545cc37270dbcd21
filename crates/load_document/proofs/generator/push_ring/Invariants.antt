use Rattle.std.proofs.Common.{◌≡◌, ◌++◌}
use Rattle.std.specs.List.{flat_map}
use Rattle.rdf_terms.specs.Lists.{numbers_below}
use Rattle.load_document.specs.LoadDocument.{ring_lines}
use Rattle.load_document.proofs.generator.push_ring.Given as goal

abbrev pub invariant-loop-node : goal.invariant-loop-node
invariant-loop-node l = l.out.items ≡ l.fn.out.items ++ flat_map (ring_lines l.count) (numbers_below l.node)
