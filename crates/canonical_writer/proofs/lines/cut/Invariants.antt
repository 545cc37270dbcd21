use Rattle.std.proofs.Common.{◌≡◌, ◌≤◌, ◌++◌, length, map, sum, drop}
use Rattle.canonical_writer.specs.Pieces.{pieces}
use Rattle.canonical_writer.proofs.lines.cut.Given as goal

-- what was cut off so far, before the pieces of what is left
abbrev pub invariant-loop-length : goal.invariant-loop-length
invariant-loop-length l = record {
  cut : map (λ p. p.now) l.parts.items ++ pieces l.rest (drop l.length-index l.lengths) ≡ pieces l.text l.lengths;
  fits : sum (drop l.length-index l.lengths) ≤ length l.rest;
}
