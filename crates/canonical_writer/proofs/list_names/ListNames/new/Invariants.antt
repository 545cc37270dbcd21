use Rattle.std.proofs.Common.{◌≡◌, ℕ, ◌<◌, length, get_or}
use Rattle.canonical_writer.proofs.list_names.ListNames.new.Given as goal

-- each number of the list has an entry, and those so far are filled in
abbrev pub invariant-loop-place : goal.invariant-loop-place
invariant-loop-place l = record {
  entry : (k : ℕ) → k < length l.list → get_or l.list k 0 < length l.places.items;
  told : (k : ℕ) → k < l.place → get_or l.places.items (get_or l.list k 0) 0 ≡ k;
}
