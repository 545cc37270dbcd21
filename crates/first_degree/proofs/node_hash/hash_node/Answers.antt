use Rattle.std.proofs.Common.{ap, ◌∙◌}
use Rattle.rdf_terms.specs.Lists.{joined, sorted}
use Rattle.canon_model.specs.Meaning.{meaning}
use Rattle.canon_model.specs.FirstDegree.{hash_first_degree_quads}
use Rattle.first_degree.proofs.node_hash.hash_node.Goals as goal

pub returns : goal.returns
unfolding hash_first_degree_quads
returns c = c.in_ok-hash.ensures ∙ ap (λ ls. (meaning c.args.profile).hash (joined (sorted ls))) c.in_ok-write_lines.ensures
