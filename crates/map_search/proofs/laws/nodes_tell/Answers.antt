use Rattle.map_search.proofs.Telling.{nodes_tell}
use Rattle.map_search.proofs.laws.nodes_tell.Goals as goal

pub returns : goal.returns
returns c = nodes_tell
