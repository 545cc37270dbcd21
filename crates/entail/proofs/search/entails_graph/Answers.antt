use Rattle.std.proofs.Common.{IfOk, sym, subst, ◌∙◌, true≢false}
use Rattle.rdf_terms.specs.Document.{Document, statements}
use Rattle.entail.specs.Answers.{IsEntailAnswer}
use Rattle.entail.specs.Searched.{IsGroundKept}
use Rattle.entail.proofs.Mapping.{ground_is_kept, is_graph}
use Rattle.entail.proofs.search.entails_graph.Goals as goal

pub returns-then-is_ground_kept-clause-answer : goal.returns-then-is_ground_kept-clause-answer
returns-then-is_ground_kept-clause-answer c =
    subst (λ (d : Document). IfOk c.map_nodes.result (IsEntailAnswer d c.args.e.now)) c.in_ok-crossing.ensures.graph
    (subst (λ (d : Document). IfOk c.map_nodes.result (IsEntailAnswer c.in_ok-crossing.crossing.graph.now d)) c.in_ok-crossing.ensures.entailed c.map_nodes.ensures.answer)

pub returns-clause-answer : goal.returns-clause-answer
returns-clause-answer c = (
  (is_graph c.args.g.now c.requires.graph, is_graph c.args.e.now c.requires.entailed),
  λ a. true≢false (sym (c.is_ground_kept.ensures.1
      (subst (λ (d : Document). IsGroundKept (statements c.in_ok-crossing.crossing.entailed.now) (statements d)) (sym c.in_ok-crossing.ensures.graph)
      (subst (λ (d : Document). IsGroundKept (statements d) (statements c.args.g.now)) (sym c.in_ok-crossing.ensures.entailed)
      (ground_is_kept (statements c.args.e.now) (statements c.args.g.now) a))))
      ∙ c.if-is_ground_kept.false),
)
