-- How entries in the order of their hashes make groups.
use Rattle.std.specs.Prelude.{◌≡◌, if◌then◌else◌, List, [], ◌∷◌, ◌++◌}
use Rattle.std.specs.Str.{bytes_eq}
use Rattle.rdf_terms.specs.Lists.{Permutes}
use Rattle.canon_model.specs.Hashing.{Hashing}
use Rattle.canon_model.specs.Groups.{RelatedEntry, as_read}
use Rattle.related_hash.specs.declared.group.Group.{Group}
use Rattle.related_hash.specs.Grouping.{Ascends}

-- ---- gathering, from the last entry on

-- one more entry in front: into the first group where that has its hash, else into a group of its own
abbrev pub with_entry : RelatedEntry → List Group → List Group
with_entry e [] = record { hash = e.hash; nodes = e.node ∷ [] } ∷ []
with_entry e (group ∷ groups) =
    if bytes_eq group.hash e.hash then record { hash = group.hash; nodes = group.nodes ++ e.node ∷ [] } ∷ groups
    else record { hash = e.hash; nodes = e.node ∷ [] } ∷ group ∷ groups

abbrev pub groups_of : List RelatedEntry → List Group
groups_of [] = []
groups_of (e ∷ entries) = with_entry e (groups_of entries)

-- ---- the nodes of each group, as they are read

pub record IsArranged (ρ : Hashing) (open_group group : Group) : Type 0 where
  pub hash : group.hash ≡ open_group.hash
  pub nodes : Permutes (as_read ρ open_group.nodes) group.nodes
  pub ascending : Ascends group.nodes

abbrev pub AllArranged : Hashing → List Group → List Group → Type 0
AllArranged ρ [] [] = Unit {0}
AllArranged ρ (open_group ∷ open_groups) (group ∷ groups) =
    IsArranged ρ open_group group × AllArranged ρ open_groups groups
AllArranged ρ open_groups groups = ⊥
