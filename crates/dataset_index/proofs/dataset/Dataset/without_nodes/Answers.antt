use Rattle.std.proofs.Common.{rules}
use Rattle.dataset_index.proofs.Building.{indexed_without_nodes}
use Rattle.dataset_index.proofs.dataset.Dataset.without_nodes.Goals as goal

pub invariant_of-result : goal.invariant_of-result
invariant_of-result c = indexed_without_nodes _ _ _ c.requires.none c.requires.distinct c.requires.document c.requires.ascend (search rules) c.in_ok-index.ensures
