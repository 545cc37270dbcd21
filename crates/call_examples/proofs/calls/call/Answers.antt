use Rattle.std.proofs.Common.{ap, ◌∙◌}
use Rattle.rdf_terms.specs.Document.{dataset}
use Rattle.id_issuer.specs.IssuedList.{list_with}
use Rattle.call_examples.proofs.ValidCalls.{valid_call}
use Rattle.call_examples.proofs.calls.call.Goals as goal

pub n_degree-called-requires-clause-call : goal.n_degree-called-requires-clause-call
n_degree-called-requires-clause-call c =
    valid_call (dataset c.args.dataset.now) _ _ c.args.node c.new-canon.ensures.list (c.in_ok-issue.ensures.list ∙ ap (λ list. list_with list c.args.node) c.new-issuer.ensures.list) c.requires.node
