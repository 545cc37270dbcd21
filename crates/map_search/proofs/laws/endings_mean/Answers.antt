use Rattle.map_search.proofs.Images.{endings_mean}
use Rattle.map_search.proofs.laws.endings_mean.Goals as goal

pub returns : goal.returns
returns c = endings_mean
