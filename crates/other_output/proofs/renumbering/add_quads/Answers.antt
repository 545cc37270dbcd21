use Rattle.std.proofs.Common.{map, take, subst}
use Rattle.rdf_terms.proofs.Common.{In, statement_of}
use Rattle.other_output.specs.Numbering.{moved}
use Rattle.other_output.proofs.InTurn.{fresh_at}
use Rattle.other_output.proofs.renumbering.add_quads.Goals as goal

pub add_quad-requires-clause-new : goal.add_quad-requires-clause-new
add_quad-requires-clause-new c h =
    let f = moved c.args.terms.now c.args.numbering.now.list in
    fresh_at f c.args.quads.now c.loop-quad.quad-index _ c.requires.distinct c.loop-quad-test.true
    (subst (λ s. In s (map f (take c.loop-quad.quad-index c.args.quads.now))) c.moved_quad-quad.ensures
    (subst (In (statement_of c.moved_quad-quad.result)) c.loop-quad.invariant.statements_are h))
