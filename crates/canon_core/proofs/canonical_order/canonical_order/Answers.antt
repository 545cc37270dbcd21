use Rattle.std.proofs.Common.{List, ap, refl, rules, subst, sym, ℕ, ◌∙◌}
use Rattle.rdf_terms.specs.Document.{dataset as dataset_of}
use Rattle.canon_model.specs.CountedRun.{Counted}
use Rattle.canon_model.specs.FirstDegree.{hash_first_degree_quads}
use Rattle.canon_model.specs.Meaning.{meaning}
use Rattle.ndegree_hash.specs.Log.{LogsAll}
use Rattle.canon_core.specs.Classes.{IsInHashOrder}
use Rattle.ndegree_hash.proofs.Logging.{logs-none}
use Rattle.canon_core.proofs.Prepared.{alone-are, in-hash-order, run-of-alone}
use Rattle.canon_core.proofs.canonical_order.canonical_order.Goals as goal

pub returns-then-len-count : goal.returns-then-len-count
returns-then-len-count c =
    let ρ = meaning c.args.profile in
    let D = dataset_of c.args.dataset.now in
    let here = subst (IsInHashOrder ρ D) (sym c.deref.ensures.value)
    (in-hash-order ρ D c.all.result.now c.node_count-count.result c.in_ok-nodes.nodes.items
    (c.all.ensures ∙ c.in_ok-table.ensures.hashes) c.node_count-count.ensures.count c.in_ok-nodes.ensures.permutes c.in_ok-nodes.ensures.ascends) in
    let run = run-of-alone ρ D c.deref.result.now c.in_ok-alone.alone.items here (c.in_ok-alone.ensures (hash_first_degree_quads ρ D) D.nodes here.ranked)
    (sym c.in_ok-alone.alone.ok.0 ∙ (sym c.len.ensures ∙ c.if-len-count.true ∙ c.node_count-count.ensures.count)) in
    record {
      order = sym (ap (λ (o : Counted (List ℕ)). o.value) run);
      limit = refl;
      spent = c.requires.spent ∙ sym (ap (λ (o : Counted (List ℕ)). o.trace.units) run);
      ties = subst (λ ties. LogsAll D ties c.args.ties.now c.args.ties.now) (sym (ap (λ (o : Counted (List ℕ)). o.trace.ties) run)) (logs-none D c.args.ties.now);
      over = search rules;
    }

pub order_from-requires : goal.order_from-requires
order_from-requires c =
    let ρ = meaning c.args.profile in
    let D = dataset_of c.args.dataset.now in
    let order = in-hash-order ρ D c.all.result.now c.node_count-count.result c.in_ok-nodes.nodes.items
    (c.all.ensures ∙ c.in_ok-table.ensures.hashes) c.node_count-count.ensures.count c.in_ok-nodes.ensures.permutes c.in_ok-nodes.ensures.ascends in
    let here = subst (IsInHashOrder ρ D) (sym c.deref.ensures.value) order in
    record {
      nodes = subst (IsInHashOrder ρ D) (sym c.deref-2.ensures.value) order;
      alone = c.deref-3.ensures.value ∙ alone-are ρ D c.deref.result.now c.in_ok-alone.alone.items here (c.in_ok-alone.ensures (hash_first_degree_quads ρ D) D.nodes here.ranked);
      first = search rules;
      spent = c.requires.spent;
      total = c.requires.total;
    }
