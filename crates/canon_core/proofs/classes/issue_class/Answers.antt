use Rattle.std.proofs.Common.{arith}
use Rattle.rdf_terms.specs.Document.{dataset as dataset_of}
use Rattle.canon_model.specs.Meaning.{meaning}
use Rattle.canon_core.specs.HashOrder.{class_hash}
use Rattle.canon_core.proofs.OneClass.{as-many, class-logs, may-be-logged, may-start, nodes-below, results-are, start-nodes, starts-ascend}
use Rattle.rdf_terms.specs.declared.limits.TheConstants.{MOST_NUMBERS}
use Rattle.canon_core.proofs.classes.issue_class.Goals as goal

pub results_from-requires-clause-starts : goal.results_from-requires-clause-starts
results_from-requires-clause-starts c =
    let ρ = meaning c.args.profile in
    let D = dataset_of c.args.dataset.now in
    may-start ρ D c.node_count-nodes.ensures.valid c.args.canon.now.list c.requires.issued (class_hash c.args.class.now) c.deref.result.now
    (start-nodes ρ D c.args.canon.now.list c.args.class.now c.requires.class _ _ c.deref.ensures.value c.in_ok-nodes.ensures)

pub sort_results-requires : goal.sort_results-requires
sort_results-requires c =
    let ρ = meaning c.args.profile in
    let D = dataset_of c.args.dataset.now in
    starts-ascend ρ D c.node_count-nodes.ensures.valid c.args.canon.now.list c.requires.issued (class_hash c.args.class.now) c.deref.result.now _
    (start-nodes ρ D c.args.canon.now.list c.args.class.now c.requires.class _ _ c.deref.ensures.value c.in_ok-nodes.ensures) c.in_ok-results.ensures.are

pub log_ties-requires : goal.log_ties-requires
log_ties-requires c =
    let ρ = meaning c.args.profile in
    let D = dataset_of c.args.dataset.now in
    let valid = c.node_count-nodes.ensures.valid in
    let canon = c.args.canon.now.list in
    let h = class_hash c.args.class.now in
    let nodes = start-nodes ρ D canon c.args.class.now c.requires.class _ _ c.deref.ensures.value c.in_ok-nodes.ensures in
    let ordered = results-are ρ D valid canon c.requires.issued h _ _ _ _ nodes c.in_ok-results.ensures.are c.sort_results.ensures c.deref-2.ensures.value in
    record {
      may = may-be-logged ρ D valid canon c.requires.issued h c.deref-2.result.now ordered;
      room =
          let many = as-many ρ D valid canon c.requires.issued h c.deref.result.now c.deref-2.result.now nodes ordered in
          let fewer = c.in_ok-results.ensures.fewer in
          let within = c.spent-spent.ensures.within in
          let limit = c.limit-limit.ensures in
          let fits = c.limit-limit.type_inv in
          omega arith;
    }

pub issue_results-requires : goal.issue_results-requires
issue_results-requires c =
    let ρ = meaning c.args.profile in
    let D = dataset_of c.args.dataset.now in
    let valid = c.node_count-nodes.ensures.valid in
    let canon = c.args.canon.now.list in
    let h = class_hash c.args.class.now in
    nodes-below ρ D valid canon c.requires.issued h MOST_NUMBERS c.node_count-nodes.ensures.document.draft.labels_bound c.deref-3.result.now
    (results-are ρ D valid canon c.requires.issued h _ _ _ _ (start-nodes ρ D canon c.args.class.now c.requires.class _ _ c.deref.ensures.value c.in_ok-nodes.ensures)
    c.in_ok-results.ensures.are c.sort_results.ensures c.deref-3.ensures.value)

pub returns-clause-ties : goal.returns-clause-ties
returns-clause-ties c =
    let ρ = meaning c.args.profile in
    let D = dataset_of c.args.dataset.now in
    let valid = c.node_count-nodes.ensures.valid in
    let canon = c.args.canon.now.list in
    let h = class_hash c.args.class.now in
    let nodes = start-nodes ρ D canon c.args.class.now c.requires.class _ _ c.deref.ensures.value c.in_ok-nodes.ensures in
    class-logs ρ D valid canon c.requires.issued h c.deref.result.now c.deref-2.result.now c.args.ties.now c.results_from.new.ties c.log_ties.new.ties nodes
    (results-are ρ D valid canon c.requires.issued h _ _ _ _ nodes c.in_ok-results.ensures.are c.sort_results.ensures c.deref-2.ensures.value)
    c.in_ok-results.ensures.ties c.in_ok-log_ties.ensures.logs

pub returns-clause-few_ties : goal.returns-clause-few_ties
returns-clause-few_ties c =
    let ρ = meaning c.args.profile in
    let D = dataset_of c.args.dataset.now in
    let valid = c.node_count-nodes.ensures.valid in
    let canon = c.args.canon.now.list in
    let h = class_hash c.args.class.now in
    let nodes = start-nodes ρ D canon c.args.class.now c.requires.class _ _ c.deref.ensures.value c.in_ok-nodes.ensures in
    let ordered = results-are ρ D valid canon c.requires.issued h _ _ _ _ nodes c.in_ok-results.ensures.are c.sort_results.ensures c.deref-2.ensures.value in
    let many = as-many ρ D valid canon c.requires.issued h c.deref.result.now c.deref-2.result.now nodes ordered in
    let fewer = c.in_ok-results.ensures.fewer in
    let most = c.log_ties.ensures.most in
    omega arith
