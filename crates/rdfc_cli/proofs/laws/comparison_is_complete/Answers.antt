use Rattle.rdfc_cli.proofs.Alike.{finds_bijections}
use Rattle.rdfc_cli.proofs.laws.comparison_is_complete.Goals as goal

pub returns : goal.returns
returns g c = finds_bijections g.K.Sink.taken g.K.Sink.faults
