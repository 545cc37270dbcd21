use Rattle.std.proofs.Common.{◌≡◌, ℕ, ◌-◌, ◌<◌, ◌≤◌, true}
use Rattle.map_search.specs.Rows.{meets_all}
use Rattle.map_search.proofs.rows.next_in_row.Given as goal

abbrev pub invariant-passes : goal.invariant-passes
invariant-passes g l = record {
  behind : l.from ≤ l.at;
  within : l.at < g.L.Lookup.bound l.lookup;
  least : (s : ℕ) → l.from ≤ s → s < g.L.Lookup.bound l.lookup → meets_all (g.L.Lookup.meets l.lookup l.images) l.row s ≡ true → l.at ≤ s;
}

abbrev pub decreases-passes : goal.decreases-passes
decreases-passes g l = g.L.Lookup.bound l.lookup - l.at
