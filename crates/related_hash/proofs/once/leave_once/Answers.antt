use Rattle.std.proofs.Common.{ap, cond, eqb, sym, ◌∙◌}
use Rattle.std.proofs.lemmas.List.Filters.{dedup_is}
use Rattle.canon_model.specs.declared.profile.Related.{Related}
use Rattle.canon_model.specs.Groups.{each_node_once}
use Rattle.canon_model.specs.Meaning.{is_once, meaning}
use Rattle.related_hash.proofs.NodesOnce.{dedup-once}
use Rattle.related_hash.proofs.once.leave_once.Goals as goal

pub returns-in-Each : goal.returns-in-Each
unfolding meaning
returns-in-Each c = sym (ap (λ (r : Related). cond (is_once r) (each_node_once c.args.nodes.now.items) c.args.nodes.now.items) c.in-Each.is)

pub returns-in-Once : goal.returns-in-Once
unfolding meaning
returns-in-Once c =
    dedup_is eqb _ _ c.dedup.ensures.filtered ∙ dedup-once c.args.nodes.now.items c.requires
    ∙ sym (ap (λ (r : Related). cond (is_once r) (each_node_once c.args.nodes.now.items) c.args.nodes.now.items) c.in-Once.is)
