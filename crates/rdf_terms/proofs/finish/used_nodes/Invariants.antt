use Rattle.std.proofs.Common.{take}
use Rattle.rdf_terms.proofs.Marking.{Marks}
use Rattle.rdf_terms.proofs.finish.used_nodes.Given as goal

abbrev pub invariant-loop-entry : goal.invariant-loop-entry
invariant-loop-entry l = Marks l.used.items l.nodes (take l.entry-index l.terms)
