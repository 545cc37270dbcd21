use Rattle.std.proofs.Common.{subst}
use Rattle.rdf_terms.specs.Document.{dataset as dataset_of}
use Rattle.ndegree_hash.specs.OwedTies.{MayBeLogged, ties_at}
use Rattle.ndegree_hash.proofs.step.step.Goals as goal

pub close-requires-clause-ties : goal.close-requires-clause-ties
close-requires-clause-ties c = subst (λ at. MayBeLogged (dataset_of c.args.dataset.now) (ties_at c.args.canon.now.list c.args.trail.now.list c.args.frame.now at)) c.in-Close.is c.requires.ties
