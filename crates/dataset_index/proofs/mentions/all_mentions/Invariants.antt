use Rattle.std.proofs.Common.{◌*◌, ◌≤◌, map, length}
use Rattle.rdf_terms.specs.Document.{statement}
use Rattle.dataset_index.specs.Mentions.{AreMentions}
use Rattle.dataset_index.proofs.mentions.all_mentions.Given as goal

abbrev pub invariant-loop-place : goal.invariant-loop-place
invariant-loop-place l = AreMentions (map (statement l.nodes) l.quads) l.found.items l.place × (length l.found.items ≤ 3 * l.place)
