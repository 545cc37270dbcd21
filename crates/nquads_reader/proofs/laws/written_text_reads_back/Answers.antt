use Rattle.nquads_reader.proofs.RoundTrip.{is_read, ReadsBack-read}
use Rattle.nquads_reader.proofs.laws.written_text_reads_back.Goals as goal

pub returns-clause-read : goal.returns-clause-read
returns-clause-read c D ν v numbered = is_read D ν v numbered

pub returns-clause-back : goal.returns-clause-back
returns-clause-back c D ν v numbered labels statements h = ReadsBack-read D ν v numbered labels statements h
