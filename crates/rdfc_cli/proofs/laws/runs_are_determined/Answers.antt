use Rattle.rdfc_cli.proofs.Determined.{runs_agree}
use Rattle.rdfc_cli.proofs.laws.runs_are_determined.Goals as goal

pub returns : goal.returns
returns g c = runs_agree g.K.Sink.taken g.K.Sink.faults g.L.Sink.taken g.L.Sink.faults
