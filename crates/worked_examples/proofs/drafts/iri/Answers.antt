use Rattle.worked_examples.proofs.ValidQuads.{is_absolute}
use Rattle.worked_examples.proofs.drafts.iri.Goals as goal

pub returns-clause-valid : goal.returns-clause-valid
returns-clause-valid c = is_absolute c.in_ok-copy.field-0 c.in_ok-copy.ensures
