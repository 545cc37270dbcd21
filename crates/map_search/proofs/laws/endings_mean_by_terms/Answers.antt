use Rattle.map_search.proofs.Bridging.{endings_mean_by_terms}
use Rattle.map_search.proofs.laws.endings_mean_by_terms.Goals as goal

pub returns : goal.returns
returns c = endings_mean_by_terms
