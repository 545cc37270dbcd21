use Rattle.std.proofs.Common.{[], ◌∷◌, refl, sym, ap}
use Rattle.rdfc_cli.specs.Words.{name_word}
use Rattle.rdfc_cli.specs.Words.Given.{related}
use Rattle.rdfc_cli.specs.declared.options.OptionName.TheVariants.{Related}
use Rattle.rdfc_cli.proofs.options.Options.with_related.Goals as goal

pub returns-in_ok-related_of-in-None-clause-some : goal.returns-in_ok-related_of-in-None-clause-some
returns-in_ok-related_of-in-None-clause-some c = record {
  given = related c.in_ok-related_of-in-None.field-0;
  follows = record { spelled = ap (λ v. name_word Related ∷ v ∷ []) (sym c.in_ok-related_of-in-None.ensures.some); good = tt; new = c.in-None.is };
  new_is = refl;
}
