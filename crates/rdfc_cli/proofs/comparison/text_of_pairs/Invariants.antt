use Rattle.std.proofs.Common.{◌≡◌, take}
use Rattle.rdfc_cli.specs.Reports.{pairs_text}
use Rattle.rdfc_cli.proofs.comparison.text_of_pairs.Given as goal

-- the lines so far
abbrev pub invariant-loop-pair : goal.invariant-loop-pair
invariant-loop-pair l = l.out.items ≡ pairs_text l.labels l.others (take l.pair-index l.pairs)
