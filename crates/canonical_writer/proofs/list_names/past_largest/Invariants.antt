use Rattle.std.proofs.Common.{ℕ, ◌<◌, get_or}
use Rattle.canonical_writer.proofs.list_names.past_largest.Given as goal

abbrev pub invariant-loop-number : goal.invariant-loop-number
invariant-loop-number l = (k : ℕ) → k < l.number-index → get_or l.list k 0 < l.bound
