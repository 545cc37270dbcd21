use Rattle.std.proofs.Common.{ap, map, sym, ◌∙◌}
use Rattle.rdf_terms.proofs.Common.{sorted, map-map}
use Rattle.canon_model.specs.Groups.{hash_of_entry}
use Rattle.canon_model.specs.Meaning.{meaning}
use Rattle.related_hash.specs.Entries.{related_entry}
use Rattle.related_hash.proofs.SortedGroups.{arranged-are_groups, arranged-ascend}
use Rattle.related_hash.proofs.grouping.groups_of_entries.Goals as goal

pub returns-clause-groups : goal.returns-clause-groups
returns-clause-groups c =
    let old = c.args.entries.items in
    let new = c.sort_by_hash.new.entries.items in
    arranged-are_groups (meaning c.args.profile) (map related_entry old) (map related_entry new) c.in_ok-open.open c.in_ok-groups.groups.items c.sort_by_hash.ensures.permutes
    (map-map hash_of_entry related_entry new ∙ c.sort_by_hash.ensures.sorted ∙ ap sorted (sym (map-map hash_of_entry related_entry old))) c.in_ok-open.ensures c.in_ok-groups.ensures

pub returns-clause-ascending : goal.returns-clause-ascending
returns-clause-ascending c = arranged-ascend (meaning c.args.profile) c.in_ok-open.open c.in_ok-groups.groups.items c.in_ok-groups.ensures
