use Rattle.std.proofs.Common.{◌≡◌, map}
use Rattle.rdf_terms.proofs.Common.{numbers_below, dataset as dataset_of}
use Rattle.canon_model.specs.Meaning.{meaning}
use Rattle.canon_model.specs.FirstDegree.{hash_first_degree_quads}
use Rattle.first_degree.proofs.table.FirstTable.build.Given as goal

-- the hashes of the nodes so far
abbrev pub invariant-loop-node : goal.invariant-loop-node
invariant-loop-node l = l.hashes.items ≡ map (hash_first_degree_quads (meaning l.profile) (dataset_of l.dataset)) (numbers_below l.node)
