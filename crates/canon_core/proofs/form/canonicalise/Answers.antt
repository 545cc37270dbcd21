use Rattle.std.proofs.Common.{◌∙◌, ap, sym}
use Rattle.rdf_terms.specs.Document.{dataset as dataset_of}
use Rattle.canon_model.specs.Allowed.{canonical_form}
use Rattle.canon_model.specs.Meaning.{meaning}
use Rattle.canon_core.proofs.Answering.{canon-from_run, run-lists}
use Rattle.canon_core.proofs.form.canonicalise.Goals as goal

pub write_in_order-requires-clause-order : goal.write_in_order-requires-clause-order
write_in_order-requires-clause-order c =
    run-lists (meaning c.args.profile) (dataset_of c.args.dataset.now) c.node_count-nodes.ensures.valid c.deref.result.now (c.deref.ensures.value ∙ c.in_ok-order.ensures.order)

pub returns-clause-canon : goal.returns-clause-canon
returns-clause-canon c =
    let D = dataset_of c.args.dataset.now in
    canon-from_run (meaning c.args.profile) D c.node_count-nodes.ensures.valid _ c.new-ties.result c.canonical_order.new.ties (c.new.ensures ∙ c.in_ok-order.ensures.order)
    (c.in_ok-bytes.ensures ∙ ap (canonical_form D) (c.deref.ensures.value ∙ sym c.new.ensures))
    (c.spent.ensures.spent ∙ c.in_ok-order.ensures.spent) c.total.ensures.total c.joined.ensures.joined c.into_unsettled.ensures.unsettled
    c.new-ties.ensures.total c.new-ties.ensures.joined c.new-ties.ensures.unsettled c.in_ok-order.ensures.ties
