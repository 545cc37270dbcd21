use Rattle.canonical_writer.specs.Names.{naming_of}
use Rattle.canonical_writer.specs.Runs.{lines_of}
use Rattle.canonical_writer.proofs.Groups.{Writes}
use Rattle.canonical_writer.proofs.sorted.write_runs.Given as goal

abbrev pub invariant-loop-place : goal.invariant-loop-place
invariant-loop-place g l = Writes (λ r. r.key.now) (λ r. lines_of (naming_of (g.N.Names.name l.named.names.now)) l.named.terms.now r.quads.now) l.runs l.place l.text.items l.group l.front
