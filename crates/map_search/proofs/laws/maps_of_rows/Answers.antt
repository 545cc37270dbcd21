use Rattle.map_search.proofs.Images.{maps_of_rows}
use Rattle.map_search.proofs.laws.maps_of_rows.Goals as goal

pub returns : goal.returns
returns c = maps_of_rows
