use Rattle.rdfc_cli.proofs.Headlines.{headline}
use Rattle.rdfc_cli.proofs.laws.headline.Goals as goal

pub returns : goal.returns
returns g c = headline g.K.Sink.taken g.K.Sink.faults
