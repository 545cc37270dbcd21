use Rattle.std.proofs.Common.{◌≡◌, Option, Some, None, IfNone, refl, inr}
use Rattle.rdf_terms.specs.declared.term.Quad.{Quad}
use Rattle.component_walk.specs.Image.{IsOneGraph}
use Rattle.entail.proofs.Mapping.{is_graph}
use Rattle.equivalence.proofs.compare.equivalent.Goals as goal

pub returns-in-Some-named_quad-clause-stop : goal.returns-in-Some-named_quad-clause-stop
returns-in-Some-named_quad-clause-stop c = inr (refl, is_graph c.args.g.now (by c.named_quad.result refl c.named_quad.ensures.none), c.in-Some-named_quad.ensures.some)
  where
    by : (o : Option Quad) → c.named_quad.result ≡ o → IfNone o (IsOneGraph c.args.g.now) → IsOneGraph c.args.g.now
    by None e h = h
    by (Some q) e h = absurd (c.in_default.not-Some q e)
