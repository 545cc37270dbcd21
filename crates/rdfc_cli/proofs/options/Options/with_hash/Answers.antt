use Rattle.std.proofs.Common.{[], ◌∷◌, refl, sym, ap}
use Rattle.rdfc_cli.specs.Words.{name_word}
use Rattle.rdfc_cli.specs.Words.Given.{hash}
use Rattle.rdfc_cli.specs.declared.options.OptionName.TheVariants.{Hash}
use Rattle.rdfc_cli.proofs.options.Options.with_hash.Goals as goal

pub returns-in_ok-hash_of-in-None-clause-some : goal.returns-in_ok-hash_of-in-None-clause-some
returns-in_ok-hash_of-in-None-clause-some c = record {
  given = hash c.in_ok-hash_of-in-None.field-0;
  follows = record { spelled = ap (λ v. name_word Hash ∷ v ∷ []) (sym c.in_ok-hash_of-in-None.ensures.some); good = tt; new = c.in-None.is };
  new_is = refl;
}
