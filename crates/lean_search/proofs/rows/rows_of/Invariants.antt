use Rattle.std.proofs.Common.{◌≡◌, ℕ, ◌<◌, length, map, get_or}
use Rattle.map_search.specs.Pattern.{row_at}
use Rattle.lean_search.specs.Asked.{row_for}
use Rattle.lean_search.proofs.rows.rows_of.Given as goal

abbrev pub invariant-loop-place : goal.invariant-loop-place
invariant-loop-place l = record {
  count : length l.rows.items ≡ l.place;
  each : (k : ℕ) → k < l.place → row_at (map (λ row. row.items) l.rows.items) k ≡ row_for l.graph l.index.live l.place_of k (get_or l.walk k 0) (get_or l.own k 0);
}
