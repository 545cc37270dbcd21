use Rattle.std.proofs.Common.{◌≡◌, ℕ, ◌<◌, length}
use Rattle.map_search.specs.Table.{entry_at}
use Rattle.map_search.specs.Index.{entry_for, quad_at}
use Rattle.map_search.proofs.index.entries_of.Given as goal

abbrev pub invariant-loop-place : goal.invariant-loop-place
invariant-loop-place l = record {
  count : length l.entries.items ≡ l.place;
  each : (k : ℕ) → k < l.place → entry_at l.entries.items k ≡ entry_for l.asked (quad_at l.quads k) k;
}
