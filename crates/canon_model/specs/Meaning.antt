-- What the profile of a run means for the definitions.
use Rattle.std.specs.Prelude.{Bool, true, false}
use Rattle.sha2.specs.Sha256.{sha256}
use Rattle.sha2.specs.Sha512.{sha384}
use Rattle.hex.specs.Hex.{encode_lower}
use Rattle.rdf_terms.specs.Lists.{Text}
use Rattle.canon_model.specs.declared.profile.HashKind.{HashKind}
use Rattle.canon_model.specs.declared.profile.HashKind.TheVariants.{Sha256, Sha384}
use Rattle.canon_model.specs.declared.profile.Related.{Related}
use Rattle.canon_model.specs.declared.profile.Related.TheVariants.{Each, Once}
use Rattle.canon_model.specs.declared.profile.Profile.{Profile}
use Rattle.canon_model.specs.Hashing.{Hashing}

-- the hash of a text in lower-case hexadecimal (RDF Dataset Canonicalization, section 4.2)
abbrev pub hash_by : HashKind → Text → Text
hash_by Sha256 text = encode_lower (sha256 text)
hash_by Sha384 text = encode_lower (sha384 text)

abbrev pub is_once : Related → Bool
is_once Each = false
is_once Once = true

unfoldable pub meaning : Profile → Hashing
meaning profile = record { hash = hash_by profile.hash; once = is_once profile.related }
