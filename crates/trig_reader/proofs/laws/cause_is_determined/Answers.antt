use Rattle.trig_reader.proofs.Causes.{same_cause}
use Rattle.trig_reader.proofs.laws.cause_is_determined.Goals as goal

pub returns : goal.returns
returns c bytes base cause other x y memory also = same_cause bytes base cause other x y memory also
