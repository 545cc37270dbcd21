use Rattle.std.proofs.Common.{◌≡◌, ◌++◌}
use Rattle.std.specs.List.{flat_map}
use Rattle.rdf_terms.specs.Lists.{numbers_below}
use Rattle.load_document.specs.LoadDocument.{pair_lines}
use Rattle.load_document.proofs.generator.push_pairs.Given as goal

abbrev pub invariant-loop-pair : goal.invariant-loop-pair
invariant-loop-pair l = l.out.items ≡ l.fn.out.items ++ flat_map pair_lines (numbers_below l.pair)
