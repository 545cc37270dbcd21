use Rattle.graph_model.proofs.Maps.{image_lies_within}
use Rattle.graph_model.proofs.laws.images_lie_within.Goals as goal

pub returns : goal.returns
returns c G H μ shrunk st there = image_lies_within G H μ shrunk st there
