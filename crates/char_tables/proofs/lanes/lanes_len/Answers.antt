use Rattle.std.proofs.Common.{◌∙◌, refl, arith}
use Rattle.std.proofs.lemmas.Simd.{zip2_splat, length-chunk}
use Rattle.std.proofs.lemmas.List.Sums.{prefix_len-le-length}
use lib.Lanes.{chunk}
use Rattle.char_tables.specs.Classes.{may_stand_in_iriref}
use Rattle.char_tables.proofs.LaneLengths.{zip2-lanes, zip2-splat, first_set-prefix_len}
use Rattle.char_tables.proofs.lanes.lanes_len.Goals as goal

pub returns-clause-is : goal.returns-clause-is
returns-clause-is c =
    let v = chunk c.args.at 16 c.args.bytes.now in
    let long = length-chunk c.args.at 16 c.args.bytes.now c.requires in
    c.first_set.ensures ∙ first_set-prefix_len may_stand_in_iriref c.args.bytes.now c.args.at 16 c.requires (omega arith) c.type_inv.bytes _
    (zip2-lanes _ _ _ v
    (zip2-lanes _ _ _ v
    (zip2-lanes _ _ _ v
    (zip2-lanes _ _ _ v
    (zip2-lanes _ _ _ v (zip2_splat _ v 16 33 long) (zip2_splat _ v 16 34 long))
    (zip2-splat _ _ v 16 62 (zip2_splat _ v 16 2 long) long))
    (zip2-splat _ _ v 16 94 (zip2_splat _ v 16 2 long) long))
    (zip2_splat _ v 16 96 long))
    (zip2-splat _ _ v 16 3 (zip2_splat _ v 16 123 long) long))
    refl

pub returns-clause-within : goal.returns-clause-within
returns-clause-within c =
    let v = chunk c.args.at 16 c.args.bytes.now in
    omega (arith, returns-clause-is c, prefix_len-le-length may_stand_in_iriref v, length-chunk c.args.at 16 c.args.bytes.now c.requires)
