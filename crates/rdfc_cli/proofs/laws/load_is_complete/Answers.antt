use Rattle.rdfc_cli.proofs.Alike.{loads_numbers}
use Rattle.rdfc_cli.proofs.laws.load_is_complete.Goals as goal

pub returns : goal.returns
returns g c = loads_numbers g.K.Sink.taken g.K.Sink.faults
