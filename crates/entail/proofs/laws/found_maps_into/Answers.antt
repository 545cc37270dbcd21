use Rattle.entail.proofs.Landing.{found_maps_into}
use Rattle.entail.proofs.laws.found_maps_into.Goals as goal

pub returns : goal.returns
returns c = found_maps_into
