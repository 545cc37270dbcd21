use Rattle.rdf_terms.specs.Document.{statements}
use Rattle.entail.specs.Searched.{AreMapped}
use Rattle.entail.specs.Workspace.{IsWorkspace}
use Rattle.entail.proofs.search.search.Given as goal

abbrev pub invariant-loop-start : goal.invariant-loop-start
invariant-loop-start l = record {
  workspace : IsWorkspace l.crossing.entailed.now l.workspace;
  mapped : AreMapped (statements l.crossing.entailed.now) (statements l.crossing.graph.now) l.crossing.graph.now.terms l.workspace.images.items l.start;
}
