use Rattle.rdfc_cli.specs.Options.{chosen}
use Rattle.rdfc_cli.proofs.OptionWords.{if_none, no_options, has_read-more}
use Rattle.rdfc_cli.proofs.options.read_options.Goals as goal

pub loop-name-preserved : goal.loop-name-preserved
loop-name-preserved c =
    has_read-more _ (chosen c.loop-name.reading.options) _ _ _ c.loop-name.invariant c.in_ok-reading.ensures.some

pub returns-in_err-reading-clause-none : goal.returns-in_err-reading-clause-none
returns-in_err-reading-clause-none c =
    if_none _ (no_options _ (chosen c.loop-name.reading.options) _ c.in-Some.name c.loop-name.invariant c.in-Some.ensures.some c.in_err-reading.ensures.none)
