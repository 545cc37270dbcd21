use Rattle.worked_examples.proofs.edges.counts.Given as goal

abbrev pub invariant-loop : goal.invariant-loop
invariant-loop g l = g.S.Shelf.ready l.shelf l.name
