use Rattle.std.proofs.Common.{◌<◌, length, sym, ap, ◌∙◌, subst}
use Rattle.component_walk.proofs.Kept.{kept-all}
use Rattle.entail.specs.Numbers.{AreNumbersIn}
use Rattle.entail.proofs.crossing.cross.Goals as goal

pub returns-clause-crossed : goal.returns-clause-crossed
returns-clause-crossed c = record {
  graph = c.requires.graph;
  entailed = c.requires.entailed;
  graph_index = record {
    quads_are = c.in_ok-graph_index.ensures.quads ∙ c.quads.ensures.quads;
    terms_are = c.in_ok-graph_index.ensures.terms ∙ (c.len.ensures.len ∙ ap length c.terms-3.ensures.terms);
    count = c.in_ok-graph_index.ensures.count ∙ ap length c.quads.ensures.quads;
  };
  entailed_index = record {
    quads_are = c.in_ok-entailed_index.ensures.quads ∙ c.quads-2.ensures.quads;
    terms_are = c.in_ok-entailed_index.ensures.terms ∙ (c.len-2.ensures.len ∙ ap length c.terms-4.ensures.terms);
    count = c.in_ok-entailed_index.ensures.count ∙ ap length c.quads-2.ensures.quads;
  };
  graph_all = kept-all c.args.graph.now.quads c.in_ok-graph_index.graph_index.live
      (λ k l. c.in_ok-graph_index.ensures.live k (subst (λ qs. k < length qs) (sym c.quads.ensures.quads) l));
  entailed_all = kept-all c.args.entailed.now.quads c.in_ok-entailed_index.entailed_index.live
      (λ k l. c.in_ok-entailed_index.ensures.live k (subst (λ qs. k < length qs) (sym c.quads-2.ensures.quads) l));
  numbers = subst (λ ts. AreNumbersIn ts c.args.graph.now.terms c.in_ok-numbers.numbers.items) c.terms.ensures.terms
      (subst (λ ts. AreNumbersIn c.terms.result.now ts c.in_ok-numbers.numbers.items) c.terms-2.ensures.terms c.in_ok-numbers.ensures);
}
