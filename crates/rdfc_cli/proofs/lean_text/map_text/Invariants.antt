use Rattle.std.proofs.Common.{◌≡◌}
use Rattle.std.specs.Prelude.{flat_map}
use Rattle.rdf_terms.specs.Lists.{numbers_below}
use Rattle.lean_search.specs.Lean.{map_by}
use Rattle.rdfc_cli.specs.Leaning.{mapped_line}
use Rattle.rdfc_cli.proofs.lean_text.map_text.Given as goal

-- the lines so far
abbrev pub invariant-loop-node : goal.invariant-loop-node
invariant-loop-node l = l.out.items ≡ flat_map (mapped_line (map_by l.graph.terms l.form.map)) (numbers_below l.node)
