use Rattle.rdfc_cli.proofs.notes.put_cause.Goals as goal

pub returns-in-NotUtf8-clause-bytes : goal.returns-in-NotUtf8-clause-bytes
returns-in-NotUtf8-clause-bytes g c = rw c.in-NotUtf8.is c.put_count-in-NotUtf8.ensures.bytes

pub returns-in-BadLine-clause-bytes : goal.returns-in-BadLine-clause-bytes
returns-in-BadLine-clause-bytes g c = rw c.in-BadLine.is c.put_count-in-BadLine.ensures.bytes

pub returns-in-RelativeIri-clause-bytes : goal.returns-in-RelativeIri-clause-bytes
returns-in-RelativeIri-clause-bytes g c = rw c.in-RelativeIri.is c.put_count-in-RelativeIri.ensures.bytes

pub returns-in-TooManyQuads-clause-bytes : goal.returns-in-TooManyQuads-clause-bytes
returns-in-TooManyQuads-clause-bytes g c = rw c.in-TooManyQuads.is c.put_count-in-TooManyQuads.ensures.bytes

pub returns-in-BadTrig-clause-bytes : goal.returns-in-BadTrig-clause-bytes
returns-in-BadTrig-clause-bytes g c = rw c.in-BadTrig.is c.put_count-in-BadTrig.ensures.bytes

pub returns-in-UnknownPrefix-clause-bytes : goal.returns-in-UnknownPrefix-clause-bytes
returns-in-UnknownPrefix-clause-bytes g c = rw c.in-UnknownPrefix.is c.put_count-in-UnknownPrefix.ensures.bytes

pub returns-in-NoBase-clause-bytes : goal.returns-in-NoBase-clause-bytes
returns-in-NoBase-clause-bytes g c = rw c.in-NoBase.is c.put_count-in-NoBase.ensures.bytes
