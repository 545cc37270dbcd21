use Rattle.std.proofs.Common.{◌≡◌, ℕ, ◌<◌, ◌≤◌, true, take}
use Rattle.map_search.specs.Rows.{meets_all}
use Rattle.map_search.proofs.rows.pass.Given as goal

abbrev pub invariant-loop-condition : goal.invariant-loop-condition
invariant-loop-condition g l = record {
  behind : l.from ≤ l.at;
  within : l.at < g.L.Lookup.bound l.lookup;
  least : (s : ℕ) → l.from ≤ s → s < g.L.Lookup.bound l.lookup → meets_all (g.L.Lookup.meets l.lookup l.images) (take l.condition-index l.row) s ≡ true → l.at ≤ s;
  stays : l.at ≡ l.from → meets_all (g.L.Lookup.meets l.lookup l.images) (take l.condition-index l.row) l.from ≡ true;
}
