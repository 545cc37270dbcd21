use Rattle.std.proofs.Common.{◌≡◌, None, subst}
use Rattle.std.specs.List.{All}
use Rattle.std.specs.Option.{IfNone}
use Rattle.lean_search.proofs.Ending.{is_one_graph}
use Rattle.lean_search.proofs.search.named_quad.Goals as goal

pub returns-clause-none : goal.returns-clause-none
returns-clause-none c =
    is_one_graph c.args.graph.now c.first_named.result c.node_count-nodes.ensures.document c.terms-terms.ensures.distinct c.quads.ensures.distinct c.quads.ensures.in_range
    (subst (λ qs. IfNone c.first_named.result (All (λ q. q.g ≡ None) qs)) c.quads.ensures.quads c.first_named.ensures.none)
