-- Groups while they are gathered, and while their nodes are put in order.
use Rattle.std.proofs.Common.{List, map, ◌++◌, ◌≡◌}
use Rattle.canon_model.specs.Hashing.{Hashing}
use Rattle.related_hash.specs.declared.entry.Entry.{Entry}
use Rattle.related_hash.specs.declared.group.Group.{Group}
use Rattle.related_hash.specs.Entries.{related_entry}
use Rattle.related_hash.specs.Gathering.{AllArranged, groups_of}

-- some entries are left, and the groups hold those behind them
pub record HoldRest (entries left : List Entry) (groups : List Group) : Type 0 where
  pub done : List Entry
  pub parts : entries ≡ left ++ done
  pub held : groups ≡ groups_of (map related_entry done)

-- some groups are left, and those before them are arranged
pub record AreArrangedBefore (ρ : Hashing) (groups left arranged : List Group) : Type 0 where
  pub before : List Group
  pub parts : groups ≡ before ++ left
  pub arranged_are : AllArranged ρ before arranged
