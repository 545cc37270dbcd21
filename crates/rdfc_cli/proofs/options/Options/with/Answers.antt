use Rattle.rdfc_cli.specs.Options.{chosen}
use Rattle.rdfc_cli.proofs.OptionWords.{base_only}
use Rattle.rdfc_cli.proofs.options.Options.with.Goals as goal

pub returns-in-Base-clause-none : goal.returns-in-Base-clause-none
returns-in-Base-clause-none c = rw c.in-Base.is (base_only (chosen c.args.self) c.args.value.now c.with_base.result c.with_base.ensures.none)
