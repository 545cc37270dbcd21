use Rattle.rdfc_cli.proofs.FineGraphs.{leans_graphs}
use Rattle.rdfc_cli.proofs.laws.lean_is_complete.Goals as goal

pub returns : goal.returns
returns g c = leans_graphs g.K.Sink.taken g.K.Sink.faults
