use Rattle.std.proofs.Common.{◌≡◌, take, map}
use Rattle.map_search.specs.Index.{quad_at}
use Rattle.lean_search.specs.Asked.{condition_for}
use Rattle.lean_search.proofs.rows.row.Given as goal

abbrev pub invariant-loop-triple : goal.invariant-loop-triple
invariant-loop-triple l = l.row.items ≡ map (λ k. condition_for l.place_of l.place l.term (quad_at l.index.quads k)) (take l.triple-index l.triples)
