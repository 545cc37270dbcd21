use Rattle.std.proofs.Common.{◌≡◌, map}
use Rattle.rdf_terms.specs.Lists.{numbers_below}
use Rattle.rdf_terms.specs.Document.{mark_in}
use Rattle.rdf_terms.proofs.Ranks.{rank}
use Rattle.rdf_terms.proofs.finish.new_numbers.Given as goal

abbrev pub invariant-loop-is_used : goal.invariant-loop-is_used
invariant-loop-is_used l = record {
  numbers : l.numbers.items ≡ map (rank (mark_in l.used)) (numbers_below l.is_used-index);
  count : l.count ≡ rank (mark_in l.used) l.is_used-index;
}
