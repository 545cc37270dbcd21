use Rattle.rdf_terms.specs.Lists.{In}
use Rattle.lean_search.proofs.component.most_bound.Given as goal

abbrev pub invariant-loop-node : goal.invariant-loop-node
invariant-loop-node l = In l.best l.walk
