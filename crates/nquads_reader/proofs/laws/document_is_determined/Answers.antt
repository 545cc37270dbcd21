use Rattle.nquads_reader.specs.Lines.{lines_of}
use Rattle.nquads_reader.proofs.OneReading.{AreRead-same}
use Rattle.nquads_reader.proofs.laws.document_is_determined.Goals as goal

pub returns : goal.returns
returns c bytes labels others statements more h k = AreRead-same (lines_of bytes) labels others statements more h k
