use Rattle.std.proofs.Common.{rules, sym, ◌∙◌}
use Rattle.iri_resolve.proofs.Dotless.{IsDotless-goes, IsDotless-empty}
use Rattle.iri_resolve.proofs.base.has_dot_segment.Goals as goal

pub loop-rest-preserved : goal.loop-rest-preserved
loop-rest-preserved c = (
  search rules,
  λ more. c.loop-rest.invariant.1 (IsDotless-goes c.loop-rest.rest.now c.first_segment.result.0.now c.first_segment.result.1.now (sym c.is_empty.ensures ∙ c.loop-rest-test.true)
      c.first_segment.ensures.segment c.first_segment.ensures.rest (c.is_dot_segment.ensures c.if-is_dot_segment.false) more),
)

pub returns : goal.returns
returns c = λ _. c.loop-rest.invariant.1 (IsDotless-empty c.loop-rest.rest.now (sym c.is_empty.ensures ∙ c.loop-rest-test.false))
