use Rattle.std.proofs.Common.{subst}
use Rattle.rdf_terms.specs.Document.{dataset as dataset_of}
use Rattle.canon_model.specs.Groups.{blank_node_list, related_hashes}
use Rattle.canon_model.specs.Meaning.{meaning}
use Rattle.related_hash.specs.Grouping.{AreGroups}
use Rattle.related_hash.proofs.SortedGroups.{groups-bound}
use Rattle.related_hash.proofs.grouping.groups.Goals as goal

pub returns-clause-in_range : goal.returns-clause-in_range
returns-clause-in_range c =
    let ρ = meaning c.args.profile in
    groups-bound ρ (dataset_of c.args.dataset.now) c.args.canon.now.list c.args.issuer.now.list c.args.node c.node_count-nodes.ensures.valid c.in_ok-found.found.items
    (subst (λ es. AreGroups (blank_node_list ρ es) (related_hashes es) c.in_ok-found.found.items) c.in_ok-entries.ensures c.in_ok-found.ensures.groups)
