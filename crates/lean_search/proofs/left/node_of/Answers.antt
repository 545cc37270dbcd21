use Rattle.std.proofs.Common.{ap, ◌∙◌}
use Rattle.rdf_terms.specs.Document.{term_at}
use Rattle.dataset_index.specs.Mentions.{node_in}
use Rattle.lean_search.proofs.AtNodes.{node_in_within}
use Rattle.lean_search.proofs.left.node_of.Goals as goal

pub returns-clause-within : goal.returns-clause-within
returns-clause-within c =
    node_in_within c.args.graph.now c.requires.one c.args.term c.requires.within c.node_at.result (c.node_at.ensures ∙ ap (λ ts. node_in (term_at ts c.args.term)) c.terms.ensures.terms)
