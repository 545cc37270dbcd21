use Rattle.map_search.proofs.Bridging.{agreeing_maps_reach}
use Rattle.map_search.proofs.laws.agreeing_maps_reach.Goals as goal

pub returns : goal.returns
returns c = agreeing_maps_reach
