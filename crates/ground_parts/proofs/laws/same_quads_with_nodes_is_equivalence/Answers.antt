use Rattle.ground_parts.proofs.Ground.{same_quads_with_nodes_is_equivalence}
use Rattle.ground_parts.proofs.laws.same_quads_with_nodes_is_equivalence.Goals as goal

pub returns : goal.returns
returns c = same_quads_with_nodes_is_equivalence
