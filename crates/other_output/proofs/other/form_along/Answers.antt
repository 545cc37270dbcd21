use Rattle.rdf_terms.specs.Document.{dataset as dataset_of}
use Rattle.canon_model.specs.Meaning.{meaning}
use Rattle.ndegree_hash.specs.Log.{tie_of}
use Rattle.other_output.proofs.Verdicts.{canonical_low, right_low, form_of_numbered}
use Rattle.other_output.proofs.other.form_along.Goals as goal

pub order_along-requires-clause-canonical : goal.order_along-requires-clause-canonical
order_along-requires-clause-canonical c = canonical_low (meaning c.args.profile) (dataset_of c.args.dataset.now) (tie_of c.args.tie.now) c.requires _ c.node_count.ensures.count

pub order_along-requires-clause-right : goal.order_along-requires-clause-right
order_along-requires-clause-right c = right_low (meaning c.args.profile) (dataset_of c.args.dataset.now) (tie_of c.args.tie.now) c.requires _ c.node_count.ensures.count

pub returns-clause-form : goal.returns-clause-form
returns-clause-form c = form_of_numbered (meaning c.args.profile) (dataset_of c.args.dataset.now) (dataset_of c.in_ok-numbered.numbered) (tie_of c.args.tie.now) _ _ _
    c.node_count.ensures.count c.in_ok-order.ensures.order c.in_ok-numbered.ensures c.in_ok-canon.ensures.canon.bytes
