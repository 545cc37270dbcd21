use Rattle.trig_reader.proofs.Causes.{same_document}
use Rattle.trig_reader.proofs.laws.document_is_determined.Goals as goal

pub returns : goal.returns
returns c bytes base labels others statements more x y = same_document bytes base labels others statements more x y
