use Rattle.std.proofs.Common.{◌-◌, ◌≡◌, ◌<◌, ◌^◌}
use Rattle.map_search.proofs.marks.Marks.new.Given as goal

abbrev pub invariant-loop-width : goal.invariant-loop-width
invariant-loop-width l = record {
  width_is : l.width ≡ 2 ^ l.height;
  low : l.height < l.width;
  bound : l.width < 2 ^ 34;
}

abbrev pub decreases-loop-width : goal.decreases-loop-width
decreases-loop-width l = l.count - l.width
