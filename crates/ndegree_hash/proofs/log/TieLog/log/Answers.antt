use Rattle.std.proofs.Common.{subst}
use Rattle.rdf_terms.specs.Document.{dataset as dataset_of}
use Rattle.tie_witness.proofs.Whole.{right_of-tail, tail-may_be_checked}
use Rattle.ndegree_hash.specs.Log.{Logs}
use Rattle.ndegree_hash.proofs.log.TieLog.log.Goals as goal

pub log_tail-requires-clause-lists : goal.log_tail-requires-clause-lists
log_tail-requires-clause-lists c = tail-may_be_checked (dataset_of c.args.dataset.now) c.args.canon.now.list c.args.passed c.args.left.now c.args.right.now c.requires.lists

pub returns-clause-logged : goal.returns-clause-logged
returns-clause-logged c =
    subst (λ right. Logs (dataset_of c.args.dataset.now) (record { canon = c.args.canon.now.list; passed = c.args.passed; left = c.args.left.now; right = right }) c.args.self.now c.log_tail.new.self)
    (right_of-tail (dataset_of c.args.dataset.now) c.args.canon.now.list c.args.passed c.args.left.now c.args.right.now c.requires.lists) c.in_ok-log_tail.ensures.logged
