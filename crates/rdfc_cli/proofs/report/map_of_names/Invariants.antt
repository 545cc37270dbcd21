use Rattle.std.proofs.Common.{◌≡◌, take, flat_map}
use Rattle.rdfc_cli.specs.Reports.{map_line}
use Rattle.rdfc_cli.proofs.report.map_of_names.Given as goal

-- the lines so far
abbrev pub invariant-loop-place : goal.invariant-loop-place
invariant-loop-place l = l.out.items ≡ flat_map (map_line l.dataset.labels l.order) (take l.place l.order)
