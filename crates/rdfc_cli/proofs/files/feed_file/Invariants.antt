use Rattle.std.proofs.Common.{◌≡◌, ◌-◌, ◌≤◌, ℕ, List, vec_len}
use Rattle.rdfc_cli.proofs.Reading.{HasFed}
use Rattle.rdfc_cli.proofs.files.feed_file.Given as goal

abbrev pub invariant-loop-total : goal.invariant-loop-total
invariant-loop-total g l = record {
  ready : g.S.Shelf.ready l.shelf l.name;
  fed : HasFed g.I.Intake.holds (g.S.Shelf.told l.fn.shelf l.name) (g.S.Shelf.rest l.shelf) l.intake l.total;
  told : (other : List ℕ) → g.S.Shelf.told l.shelf other ≡ g.S.Shelf.told l.fn.shelf other;
  never_fell : (other : List ℕ) → g.S.Shelf.faults l.fn.shelf other ≤ g.S.Shelf.faults l.shelf other;
  buffer : vec_len l.piece ≡ 65536;
  within : l.total ≤ 268500992;
}

abbrev pub decreases-loop-total : goal.decreases-loop-total
decreases-loop-total g l = 268500993 - l.total
