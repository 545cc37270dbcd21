use Rattle.std.proofs.Common.{refl}
use Rattle.std.specs.Hash.{le_bytes}
use Rattle.rdf_terms.proofs.quad_hash.number_bytes.Goals as goal

pub returns : goal.returns
unfolding le_bytes
returns c =
    rw (
      c.copy_from_slice.ensures.after,
      c.copy_from_slice-2.ensures.after,
      c.copy_from_slice-3.ensures.after,
      c.copy_from_slice-4.ensures.after,
      c.to_le_bytes.ensures,
      c.to_le_bytes-2.ensures,
      c.to_le_bytes-3.ensures,
      c.to_le_bytes-4.ensures,
      c.graph_number.ensures,
    ) refl
