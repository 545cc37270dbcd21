use Rattle.std.proofs.Common.{◌≡◌, ◌++◌, take}
use Rattle.canonical_writer.specs.Names.{naming_of}
use Rattle.canonical_writer.specs.Runs.{lines_of}
use Rattle.canonical_writer.proofs.sorted.push_lines.Given as goal

-- the lines so far
abbrev pub invariant-loop-quad : goal.invariant-loop-quad
invariant-loop-quad g l = l.lines ≡ l.fn.lines ++ lines_of (naming_of (g.N.Names.name l.named.names.now)) l.named.terms.now (take l.quad-index l.quads)
