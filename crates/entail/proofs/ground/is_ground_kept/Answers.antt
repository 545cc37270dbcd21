use Rattle.std.proofs.Common.{take, get_or, refl, sym, ◌∙◌, subst, true≢false, arith}
use Rattle.std.proofs.lemmas.List.{take_all}
use Rattle.std.proofs.lemmas.List.Elements.{All-more, All-same}
use Rattle.std.specs.List.{All}
use Rattle.rdf_terms.proofs.Common.{In, In-get_or, In-map, statement, statements}
use Rattle.map_search.specs.Index.{no_quad}
use Rattle.entail.specs.Entailment.{IsGround}
use Rattle.entail.proofs.Grounding.{kept_from_all}
use Rattle.entail.proofs.ground.is_ground_kept.Goals as goal

pub is_kept-requires-clause-there : goal.is_kept-requires-clause-there
is_kept-requires-clause-there c = subst (λ qs. In (get_or c.quads-triples.result.now c.loop-triple.triple-index no_quad) qs) c.quads-triples.ensures.quads
    (In-get_or c.quads-triples.result.now c.loop-triple.triple-index no_quad c.loop-triple-test.true)

pub returns-then-not-is_kept : goal.returns-then-not-is_kept
returns-then-not-is_kept c = (
  λ t. absurd (true≢false (sym t)),
  λ kept. absurd (true≢false (sym (c.is_kept.ensures.1
      (λ ground. kept (statement c.args.crossing.now.entailed.now.terms (get_or c.quads-triples.result.now c.loop-triple.triple-index no_quad))
      (In-map (statement c.args.crossing.now.entailed.now.terms) c.args.crossing.now.entailed.now.quads (get_or c.quads-triples.result.now c.loop-triple.triple-index no_quad)
      (subst (λ qs. In (get_or c.quads-triples.result.now c.loop-triple.triple-index no_quad) qs) c.quads-triples.ensures.quads
      (In-get_or c.quads-triples.result.now c.loop-triple.triple-index no_quad c.loop-triple-test.true))) ground))
      ∙ c.if-not-is_kept.true)),
)

pub loop-triple-preserved : goal.loop-triple-preserved
loop-triple-preserved c =
    All-more (λ q. IsGround (statement c.args.crossing.now.entailed.now.terms q) → In (statement c.args.crossing.now.entailed.now.terms q) (statements c.args.crossing.now.graph.now))
    c.quads-triples.result.now c.loop-triple.triple-index no_quad c.loop-triple-test.true c.loop-triple.invariant (c.is_kept.ensures.0 c.if-not-is_kept.false)

pub returns : goal.returns
returns c = (
  λ t. kept_from_all c.args.crossing.now.entailed.now.terms (statements c.args.crossing.now.graph.now) c.args.crossing.now.entailed.now.quads
      (subst (All (λ q. IsGround (statement c.args.crossing.now.entailed.now.terms q) → In (statement c.args.crossing.now.entailed.now.terms q) (statements c.args.crossing.now.graph.now)))
      c.quads-triples.ensures.quads
      (All-same (λ q. IsGround (statement c.args.crossing.now.entailed.now.terms q) → In (statement c.args.crossing.now.entailed.now.terms q) (statements c.args.crossing.now.graph.now))
      c.quads-triples.result.now (take c.loop-triple.triple-index c.quads-triples.result.now)
      (sym (take_all c.loop-triple.triple-index c.quads-triples.result.now (let n = c.loop-triple-test.false in omega arith))) c.loop-triple.invariant)),
  λ kept. refl,
)
