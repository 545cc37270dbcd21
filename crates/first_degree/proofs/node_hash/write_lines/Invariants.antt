use Rattle.std.proofs.Common.{◌≡◌, map, take}
use Rattle.first_degree.specs.FirstHashes.{line_at}
use Rattle.first_degree.proofs.node_hash.write_lines.Given as goal

-- the lines at the places so far
abbrev pub invariant-loop-place : goal.invariant-loop-place
invariant-loop-place l = l.lines ≡ map (line_at l.dataset l.node) (take l.place-index l.places)
