use Rattle.rdfc_cli.proofs.Alike.{judges_pairs}
use Rattle.rdfc_cli.proofs.laws.comparison_is_judged.Goals as goal

pub returns : goal.returns
returns g c = judges_pairs g.K.Sink.taken g.K.Sink.faults
