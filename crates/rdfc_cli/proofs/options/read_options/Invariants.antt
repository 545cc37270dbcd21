use Rattle.std.proofs.Common.{map, string_bytes, length}
use Rattle.rdfc_cli.specs.Options.{chosen}
use Rattle.rdfc_cli.proofs.OptionWords.{HasRead}
use Rattle.rdfc_cli.proofs.options.read_options.Given as goal

abbrev pub invariant-loop-name : goal.invariant-loop-name
invariant-loop-name l = HasRead (map string_bytes l.words) (chosen l.reading.options) (map string_bytes l.reading.rest.now)

abbrev pub decreases-loop-name : goal.decreases-loop-name
decreases-loop-name l = length l.reading.rest.now
