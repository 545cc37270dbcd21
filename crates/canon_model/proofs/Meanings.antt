-- What the default profile means.
use Rattle.std.proofs.Common.{◌≡◌, refl}
use Rattle.canon_model.specs.declared.profile.TheConstants.Profile.{DEFAULT}
use Rattle.canon_model.specs.Hashing.{sha256_each}
use Rattle.canon_model.specs.Meaning.{meaning}

pub meaning-default : meaning DEFAULT ≡ sha256_each
unfolding meaning sha256_each
meaning-default = refl
