use Rattle.std.proofs.Common.{◌≡◌, ◌+◌, ◌^◌, ◌<◌, ◌≤◌, ◌++◌, length, drop}
use Rattle.rdf_terms.specs.Numeral.{numeral}
use Rattle.rdfc_cli.proofs.decimal.Decimal.of.Given as goal

abbrev pub invariant-loop-rest : goal.invariant-loop-rest
invariant-loop-rest l = record {
  start : l.start ≤ 19;
  length : length l.digits ≡ 20;
  fits : l.rest < 10 ^ (l.start + 1);
  written : numeral l.number ≡ numeral l.rest ++ drop (l.start + 1) l.digits;
}

abbrev pub decreases-loop-rest : goal.decreases-loop-rest
decreases-loop-rest l = l.rest
