use Rattle.rdfc_cli.proofs.Alike.{is_complete}
use Rattle.rdfc_cli.proofs.laws.run_is_complete.Goals as goal

pub returns : goal.returns
returns g c = is_complete g.K.Sink.taken g.K.Sink.faults
