use Rattle.std.proofs.Common.{◌≡◌, ◌++◌, length, All}
use Rattle.std.specs.List.{flat_map, AllZip}
use Rattle.rdf_terms.specs.Document.{statement, IsInRange}
use Rattle.canonical_writer.specs.Names.{HasNames}
use Rattle.canonical_writer.specs.Runs.{IsRun}
use Rattle.canonical_writer.proofs.runs.cut_at_subjects.Given as goal

-- what was cut off so far, and what is left
abbrev pub invariant-loop-first : goal.invariant-loop-first
invariant-loop-first g l = record {
  whole : flat_map (λ p. p.now) l.stretches.items ++ l.rest ≡ l.quads;
  runs : AllZip (λ k p. IsRun (g.N.Names.name l.named.names.now) l.named.terms.now k p.now) l.keys l.stretches.items;
  in_range : All (IsInRange l.named.terms.now) l.rest;
  named : All (λ q. HasNames (g.N.Names.name l.named.names.now) (statement l.named.terms.now q)) l.rest;
}

abbrev pub decreases-loop-first : goal.decreases-loop-first
decreases-loop-first g l = length l.rest
