use Rattle.std.proofs.Common.{◌≡◌, [], ◌∷◌, ◌++◌, subst, OnOk}
use Rattle.canonical_writer.proofs.NamedNodes.{has_degree_names}
use Rattle.first_degree.proofs.Places.{line_of_quad, quad_in_range}
use Rattle.first_degree.proofs.node_hash.push_line_at.Goals as goal

pub push-requires-clause-named : goal.push-requires-clause-named
push-requires-clause-named c = has_degree_names _ _

pub push-requires-clause-in_range : goal.push-requires-clause-in_range
push-requires-clause-in_range c =
    quad_in_range c.args.dataset.now c.args.place c.terms.result.now c.quads.result.now c.terms.ensures.terms c.quads.ensures.quads c.requires c.quads.ensures.in_range

pub returns : goal.returns
returns c =
    subst (λ line. OnOk c.push.result (c.push.new.self ≡ c.args.lines.now ++ line ∷ []))
    (line_of_quad c.args.dataset.now c.args.place c.terms.result.now c.quads.result.now c.terms.ensures.terms c.quads.ensures.quads c.requires c.args.node)
    c.push.ensures.pushed
