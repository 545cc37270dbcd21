use Rattle.std.proofs.Common.{◌≡◌, ◌≤◌, ◌++◌, length, map, sum, drop}
use Rattle.std.specs.List.{zip}
use Rattle.canonical_writer.specs.Pieces.{pieces}
use Rattle.canonical_writer.proofs.runs.with_keys.Given as goal

-- the runs so far, before the pairs of the keys and stretches that are left
abbrev pub invariant-loop-place : goal.invariant-loop-place
invariant-loop-place l = record {
  pairs : map (λ r. (r.key.now, r.quads.now)) l.runs.items ++ zip (pieces l.rest (drop l.place l.lengths)) (map (λ p. p.now) (drop l.place l.stretches)) ≡ zip (pieces l.text l.lengths)
      (map (λ p. p.now) l.stretches);
  fits : sum (drop l.place l.lengths) ≤ length l.rest;
}
