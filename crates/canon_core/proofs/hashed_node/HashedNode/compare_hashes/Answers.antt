use Rattle.std.proofs.Common.{◌∙◌}
use Rattle.canon_core.proofs.HashNumbers.{slice_cmp-by_number}
use Rattle.canon_core.proofs.hashed_node.HashedNode.compare_hashes.Goals as goal

pub returns : goal.returns
returns c =
    rw (← c.self.view_is, ← c.other.view_is) (c.cmp.ensures ∙ slice_cmp-by_number _ _ _ _ c.self.invariant c.other.invariant)
