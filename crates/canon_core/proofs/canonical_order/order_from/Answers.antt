use Rattle.std.proofs.Common.{◌∙◌, ap}
use Rattle.rdf_terms.specs.Document.{dataset as dataset_of}
use Rattle.canon_model.specs.Issuer.{issue_each}
use Rattle.canon_model.specs.Meaning.{meaning}
use Rattle.canon_core.proofs.Prepared.{all-alone-below, unique-so-far}
use Rattle.rdf_terms.specs.declared.limits.TheConstants.{MOST_NUMBERS}
use Rattle.canon_core.proofs.canonical_order.order_from.Goals as goal

pub issue_all-requires : goal.issue_all-requires
issue_all-requires c = all-alone-below (meaning c.args.profile) (dataset_of c.args.dataset.now) MOST_NUMBERS c.node_count-nodes.ensures.document.draft.labels_bound c.args.alone.now c.requires.alone

pub issue_classes-requires-clause-issued : goal.issue_classes-requires-clause-issued
issue_classes-requires-clause-issued c =
    unique-so-far (meaning c.args.profile) (dataset_of c.args.dataset.now) c.issue_all.new.issuer.list c.args.alone.now c.requires.alone
    (c.in_ok-issue_all.ensures.list ∙ ap (λ list. issue_each list c.args.alone.now) c.new-canon.ensures.list)
