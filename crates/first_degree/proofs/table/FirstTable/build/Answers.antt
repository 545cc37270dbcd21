use Rattle.std.proofs.Common.{◌≡◌, length, map, ap, ◌∙◌, arith}
use Rattle.rdf_terms.proofs.Common.{numbers_below, dataset as dataset_of, length-numbers_below}
use Rattle.canon_model.specs.Meaning.{meaning}
use Rattle.canon_model.specs.FirstDegree.{hash_first_degree_quads}
use Rattle.std.proofs.lemmas.List.{length-map}
use Rattle.first_degree.proofs.Places.{values_more}
use Rattle.first_degree.proofs.table.FirstTable.build.Goals as goal

pub loop-node-preserved : goal.loop-node-preserved
loop-node-preserved c =
    values_more (hash_first_degree_quads (meaning c.args.profile) (dataset_of c.args.dataset.now)) c.loop-node.node c.loop-node.hashes.items _ _
    c.in_ok-push.ensures.items c.loop-node.invariant c.in_ok-hash_node.ensures

pub returns-clause-hashes : goal.returns-clause-hashes
returns-clause-hashes c =
    let e : c.loop-node.node ≡ c.node_count-nodes.result = omega arith in
    c.loop-node.invariant ∙ ap (λ n. map (hash_first_degree_quads (meaning c.args.profile) (dataset_of c.args.dataset.now)) (numbers_below n)) (e ∙ c.node_count-nodes.ensures.count)

pub returns-clause-count : goal.returns-clause-count
returns-clause-count c =
    let e : c.loop-node.node ≡ c.node_count-nodes.result = omega arith in
    ap length c.loop-node.invariant
    ∙ (length-map (numbers_below c.loop-node.node) (hash_first_degree_quads (meaning c.args.profile) (dataset_of c.args.dataset.now))
    ∙ (length-numbers_below c.loop-node.node ∙ (e ∙ c.node_count-nodes.ensures.count)))
