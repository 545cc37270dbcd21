use Rattle.std.proofs.Common.{subst}
use Rattle.rdf_terms.specs.Document.{dataset as dataset_of}
use Rattle.tie_witness.specs.Witness.{IsChecked}
use Rattle.tie_witness.proofs.Whole.{right_of-tail, tail-may_be_checked}
use Rattle.tie_witness.proofs.check.witness.Goals as goal

pub tail_witness-requires : goal.tail_witness-requires
tail_witness-requires c = tail-may_be_checked (dataset_of c.args.dataset.now) c.args.canon.now.list c.args.passed c.args.l.now c.args.m.now c.requires

pub returns : goal.returns
returns c =
    subst (λ right. IsChecked (dataset_of c.args.dataset.now) c.args.canon.now.list c.args.l.now right c.in_ok-found.found)
    (right_of-tail (dataset_of c.args.dataset.now) c.args.canon.now.list c.args.passed c.args.l.now c.args.m.now c.requires) c.in_ok-found.ensures
