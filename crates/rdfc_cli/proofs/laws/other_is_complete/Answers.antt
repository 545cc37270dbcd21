use Rattle.rdfc_cli.proofs.OtherAnswers.{finds_others}
use Rattle.rdfc_cli.proofs.laws.other_is_complete.Goals as goal

pub returns : goal.returns
returns g c = finds_others g.K.Sink.taken g.K.Sink.faults
