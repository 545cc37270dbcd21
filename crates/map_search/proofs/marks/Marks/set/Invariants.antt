use Rattle.std.proofs.Common.{◌≡◌, ℕ, ◌+◌, ◌*◌, ◌<◌, ◌≤◌, ◌/◌, ◌||◌, length}
use Rattle.map_search.specs.Marks.{mark_at}
use Rattle.map_search.proofs.marks.Marks.set.Given as goal

abbrev pub invariant-loop-at : goal.invariant-loop-at
invariant-loop-at l = record {
  same_width : l.self-inside.width ≡ l.initial.self-inside.width;
  same_height : l.self-inside.height ≡ l.initial.self-inside.height;
  count : length l.self-inside.marks.items ≡ 2 * l.self-inside.width;
  some : 0 < l.at;
  within : l.at < 2 * l.self-inside.width;
  above : (p : ℕ) → 0 < p → 2 * p + 1 < length l.self-inside.marks.items → (p ≡ l.at / 2 → ⊥)
      → mark_at l.self-inside.marks.items p ≡ (mark_at l.self-inside.marks.items (2 * p) || mark_at l.self-inside.marks.items (2 * p + 1));
  leaves : (k : ℕ) → l.self-inside.width ≤ k → mark_at l.self-inside.marks.items k ≡ mark_at l.initial.self-inside.marks.items k;
}

abbrev pub decreases-loop-at : goal.decreases-loop-at
decreases-loop-at l = l.at
