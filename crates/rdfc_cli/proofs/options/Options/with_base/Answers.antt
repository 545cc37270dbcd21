use Rattle.std.proofs.Common.{[], ◌∷◌, option_copied, refl, ap}
use Rattle.rdfc_cli.specs.Words.{name_word}
use Rattle.rdfc_cli.specs.Words.Given.{base}
use Rattle.rdfc_cli.specs.declared.options.OptionName.TheVariants.{Base}
use Rattle.rdfc_cli.proofs.options.Options.with_base.Goals as goal

pub returns-in_ok-base_of-in-None-clause-some : goal.returns-in_ok-base_of-in-None-clause-some
returns-in_ok-base_of-in-None-clause-some c =
    let e = c.in_ok-base_of-in-None.ensures in record {
      given = base c.in_ok-base_of-in-None.field-0.now;
      follows = record { spelled = ap (λ v. name_word Base ∷ v ∷ []) e.some; good = e.good; new = ap option_copied c.in-None.is };
      new_is = refl;
    }
