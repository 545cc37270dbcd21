use Rattle.graph_model.proofs.Maps.{lean_has_no_proper_instance}
use Rattle.graph_model.proofs.laws.lean_has_no_proper_instance.Goals as goal

pub returns : goal.returns
returns c = lean_has_no_proper_instance
