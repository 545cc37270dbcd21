use Rattle.std.proofs.Common.{length, subst}
use Rattle.rdf_terms.specs.Document.{statements}
use Rattle.entail.specs.Searched.{IsPassed}
use Rattle.entail.proofs.Mapping.{is_graph, mapping_ends}
use Rattle.entail.proofs.search.map_nodes.Goals as goal

pub returns-then-is_mapped-clause-answer : goal.returns-then-is_mapped-clause-answer
returns-then-is_mapped-clause-answer c =
    mapping_ends c.args.crossing.now.graph.now c.args.crossing.now.entailed.now c.requires.crossed.graph c.requires.crossed.entailed c.search.new.workspace.images.items
    c.in_ok-is_mapped.ensures.workspace.count c.requires.ground
    (subst (IsPassed (statements c.args.crossing.now.entailed.now) (statements c.args.crossing.now.graph.now) c.args.crossing.now.graph.now.terms c.search.new.workspace.images.items
    (length c.args.crossing.now.entailed.now.labels)) c.if-is_mapped.true c.in_ok-is_mapped.ensures.passed) (record { terms = c.new.result }) c.new.ensures

pub returns-else-is_mapped-clause-answer : goal.returns-else-is_mapped-clause-answer
returns-else-is_mapped-clause-answer c = (
  (is_graph c.args.crossing.now.graph.now c.requires.crossed.graph, is_graph c.args.crossing.now.entailed.now c.requires.crossed.entailed),
  subst (IsPassed (statements c.args.crossing.now.entailed.now) (statements c.args.crossing.now.graph.now) c.args.crossing.now.graph.now.terms c.search.new.workspace.images.items
      (length c.args.crossing.now.entailed.now.labels)) c.if-is_mapped.false c.in_ok-is_mapped.ensures.passed,
)
