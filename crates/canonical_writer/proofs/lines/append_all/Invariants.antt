use Rattle.std.proofs.Common.{◌≡◌, ◌++◌, map, take}
use Rattle.rdf_terms.specs.Lists.{joined}
use Rattle.canonical_writer.proofs.lines.append_all.Given as goal

-- the texts so far
abbrev pub invariant-loop-text : goal.invariant-loop-text
invariant-loop-text l = l.out.items ≡ l.fn.out.items ++ joined (map (λ t. t.now) (take l.text-index l.texts))
