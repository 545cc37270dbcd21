-- Workspace of which nothing is used yet.
use Rattle.std.proofs.Common.{◌≡◌, ℕ, ◌<◌, ◌≤◌, Bool, false, List, length, sym, ◌∙◌, arith, true≢false}
use Rattle.map_search.specs.Marks.{mark_at}
use Rattle.std.proofs.lemmas.Bool.{false_from_ne_true}
use Rattle.lean_search.specs.Walk.{IsUnmarked}
use Rattle.lean_search.proofs.Walking.{mark_within}

pub unmarked_from_all : (xs : List Bool) (count n : ℕ) → n ≡ count → n ≤ length xs → ((k : ℕ) → k < length xs → mark_at xs k ≡ false) → IsUnmarked count xs
unmarked_from_all xs count n e r h = record { enough = omega arith; empty = λ k. false_from_ne_true (mark_at xs k) (λ m. true≢false (sym m ∙ h k (mark_within xs k m))) }
