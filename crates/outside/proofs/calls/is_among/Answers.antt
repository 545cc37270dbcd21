use Rattle.outside.proofs.Membership.{tells_In}
use Rattle.outside.proofs.calls.is_among.Goals as goal

pub returns : goal.returns
returns c = tells_In _ _ _ c.contains.ensures.value
