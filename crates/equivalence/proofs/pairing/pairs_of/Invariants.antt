use Rattle.std.proofs.Common.{◌≡◌, ℕ, true, map}
use Rattle.std.specs.List.{filter}
use Rattle.rdf_terms.specs.Lists.{numbers_below}
use Rattle.rdf_terms.specs.declared.term.Term.TheVariants.{Blank}
use Rattle.map_search.specs.Marks.{mark_at}
use Rattle.equivalence.specs.Pairs.{taken}
use Rattle.equivalence.proofs.pairing.pairs_of.Given as goal

abbrev pub invariant-loop-node : goal.invariant-loop-node
invariant-loop-node l =
    (f : ℕ → ℕ) → ((n : ℕ) → mark_at l.marks n ≡ true → taken l.graph l.images l.onward n ≡ Blank (f n))
    → l.pairs.items ≡ map (λ n. (n, f n)) (filter (mark_at l.marks) (numbers_below l.node))
