use Rattle.std.proofs.Common.{subst}
use Rattle.rdf_terms.specs.Document.{dataset as dataset_of}
use Rattle.ndegree_hash.specs.OwedTies.{MayBeLogged}
use Rattle.canon_core.proofs.LoggingResults.{ties-first}
use Rattle.canon_core.proofs.result_ties.log_ties.Goals as goal

pub log_with-requires-clause-may : goal.log_with-requires-clause-may
log_with-requires-clause-may c =
    subst (MayBeLogged (dataset_of c.args.dataset.now)) (ties-first c.args.canon.now.list c.args.results.now c.first-item.result c.in-len1-up.len_at_least c.first-item.is) c.requires.may
