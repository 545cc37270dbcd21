use Rattle.std.proofs.Common.{take}
use Rattle.std.specs.List.{All}
use Rattle.rdf_terms.proofs.Common.{In, statement, statements}
use Rattle.entail.specs.Entailment.{IsGround}
use Rattle.entail.proofs.ground.is_ground_kept.Given as goal

abbrev pub invariant-loop-triple : goal.invariant-loop-triple
invariant-loop-triple l =
    All (λ q. IsGround (statement l.crossing.entailed.now.terms q) → In (statement l.crossing.entailed.now.terms q) (statements l.crossing.graph.now)) (take l.triple-index l.triples)
