use Rattle.std.proofs.Common.{◌≡◌, map, take, get_or}
use Rattle.entail.specs.Numbers.{condition_by}
use Rattle.entail.proofs.rows.row_in.Given as goal

abbrev pub invariant-loop-condition : goal.invariant-loop-condition
invariant-loop-condition l = l.new.items ≡ map (condition_by (λ k. get_or l.numbers k 0)) (take l.condition-index l.row)
