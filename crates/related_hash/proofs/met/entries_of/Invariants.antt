use Rattle.std.proofs.Common.{map, take, ◌≡◌}
use Rattle.std.specs.List.{flat_map}
use Rattle.canon_model.specs.Meaning.{meaning}
use Rattle.related_hash.specs.Entries.{entries_at, related_entry}
use Rattle.related_hash.proofs.met.entries_of.Given as goal

abbrev pub invariant-loop-place : goal.invariant-loop-place
invariant-loop-place l =
    map related_entry l.entries.items ≡ flat_map (entries_at (meaning l.call.profile) l.call.dataset.now l.call.canon.now.list l.call.issuer.now.list l.call.node) (take l.place-index l.places)
