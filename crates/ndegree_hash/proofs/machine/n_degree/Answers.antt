use Rattle.rdf_terms.specs.Document.{dataset as dataset_of}
use Rattle.canon_model.specs.Meaning.{meaning}
use Rattle.ndegree_hash.proofs.Calling.{finished-result, only-outcome}
use Rattle.ndegree_hash.proofs.Logging.{front-all, on_err}
use Rattle.ndegree_hash.proofs.machine.n_degree.Goals as goal

pub returns-clause-result_is : goal.returns-clause-result_is
returns-clause-result_is c =
    finished-result (meaning c.args.profile)
    (dataset_of c.args.dataset.now) c.args.canon.now.list c.args.node c.args.issuer.list _ _ _ _ c.count_nodes-nodes.ensures.valid c.requires.call c.in_ok-hash.ensures.finished

pub returns-clause-only : goal.returns-clause-only
returns-clause-only c =
    only-outcome (meaning c.args.profile) (dataset_of c.args.dataset.now) c.args.canon.now.list c.args.node c.args.issuer.list c.args.ties.now c.run.new.ties c.in_ok-hash.ensures.finished.ties

pub returns-in_err-hash-clause-front : goal.returns-in_err-hash-clause-front
returns-in_err-hash-clause-front c = on_err _ _ (front-all (dataset_of c.args.dataset.now) _ c.args.ties.now c.run.new.ties c.in_err-hash.ensures.front)
