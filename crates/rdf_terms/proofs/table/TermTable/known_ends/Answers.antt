use Rattle.rdf_terms.proofs.HashedTerms.{known_all}
use Rattle.rdf_terms.proofs.table.TermTable.known_ends.Goals as goal

pub returns-clause-known : goal.returns-clause-known
returns-clause-known c = rw (← c.self.view_is, ← known_all c.self.inside.keys c.self.inside.terms.keys c.self.invariant.2 c.args.quads.now) c.find_ends.ensures.known
