use Rattle.std.proofs.Common.{◌≡◌, map, take, get_or}
use Rattle.entail.specs.Numbers.{condition_by}
use Rattle.entail.proofs.rows.rows_in.Given as goal

abbrev pub invariant-loop-row : goal.invariant-loop-row
invariant-loop-row l = map (λ row. row.items) l.new.items ≡ map (map (condition_by (λ k. get_or l.numbers k 0))) (map (λ row. row.items) (take l.row-index l.rows))
