use Rattle.std.proofs.Common.{◌*◌, subst, sym, ap, ◌∙◌}
use Rattle.hex.specs.Hex.{encode_lower}
use Rattle.canon_model.specs.HexHash.{IsHexHash, is_hex_length}
use Rattle.canon_model.proofs.HexHashes.{IsHexHash-encode_lower}
use Rattle.profile_hash.proofs.hexadecimal.hex_of_sha384.Goals as goal

pub new-requires : goal.new-requires
new-requires c =
    subst IsHexHash (sym (c.in-Ok.ensures.written ∙ ap encode_lower c.as_slice.ensures)) (IsHexHash-encode_lower c.args.digest.now (ap (λ n. is_hex_length (2 * n)) c.told-digest) c.fits-digest)
