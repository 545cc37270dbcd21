use Rattle.std.proofs.Common.{[], ◌∷◌, refl, sym, ap}
use Rattle.rdfc_cli.specs.Words.{name_word}
use Rattle.rdfc_cli.specs.Words.Given.{limit}
use Rattle.rdfc_cli.specs.declared.options.OptionName.TheVariants.{Limit}
use Rattle.rdfc_cli.proofs.options.Options.with_limit.Goals as goal

pub returns-in_ok-number_within-in-None-clause-some : goal.returns-in_ok-number_within-in-None-clause-some
returns-in_ok-number_within-in-None-clause-some c =
    let e = c.in_ok-number_within-in-None.ensures in record {
      given = limit c.in_ok-number_within-in-None.field-0;
      follows = record { spelled = ap (λ v. name_word Limit ∷ v ∷ []) (sym e.some); good = (e.least, e.greatest); new = c.in-None.is };
      new_is = refl;
    }
