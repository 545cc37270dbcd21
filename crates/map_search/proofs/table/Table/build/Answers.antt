use Rattle.std.proofs.Common.{arith}
use Rattle.rdf_terms.proofs.Permutations.{Permutes-from_IsPermutation, length-Permutes}
use Rattle.map_search.proofs.Ordering.{in_order}
use Rattle.map_search.proofs.table.Table.build.Goals as goal

pub invariant_of-result : goal.invariant_of-result
invariant_of-result c =
    record {
      in_order = in_order c.args.entries.items c.sort_unstable.new.self.items c.requires.distinct c.sort_unstable.ensures.permutation c.sort_unstable.ensures.sorted;
      enough = (let a = c.in_ok-marks.ensures.enough in let b = c.sort_unstable.ensures.len in let l = length-Permutes
          (Permutes-from_IsPermutation c.args.entries.items c.sort_unstable.new.self.items c.sort_unstable.ensures.permutation) in let m = c.len.ensures in omega arith);
    }

pub returns-clause-permutes : goal.returns-clause-permutes
returns-clause-permutes c = Permutes-from_IsPermutation c.args.entries.items c.sort_unstable.new.self.items c.sort_unstable.ensures.permutation
