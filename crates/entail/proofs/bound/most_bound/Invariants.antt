use Rattle.rdf_terms.specs.Lists.{In}
use Rattle.entail.proofs.bound.most_bound.Given as goal

abbrev pub invariant-loop-node : goal.invariant-loop-node
invariant-loop-node l = In l.best l.walk
