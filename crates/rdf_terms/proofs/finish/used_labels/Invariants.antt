use Rattle.rdf_terms.proofs.Keeping.{Keeps}
use Rattle.rdf_terms.proofs.finish.used_labels.Given as goal

abbrev pub invariant-loop-node : goal.invariant-loop-node
invariant-loop-node l = Keeps l.fn.labels.keys l.kept.keys l.node-iterator.iter l.used l.node-iterator.count
