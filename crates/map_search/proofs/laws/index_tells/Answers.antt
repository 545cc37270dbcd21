use Rattle.map_search.proofs.Indexing.{index_tells}
use Rattle.map_search.proofs.laws.index_tells.Goals as goal

pub returns : goal.returns
returns c = index_tells
