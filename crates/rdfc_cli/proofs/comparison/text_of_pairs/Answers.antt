use Rattle.std.proofs.Common.{ℕ, get_or}
use Rattle.std.proofs.lemmas.List.{get_or_default}
use Rattle.rdf_terms.proofs.MadeLists.{In-get_or}
use Rattle.rdfc_cli.proofs.Pairing.{one_more_pair}
use Rattle.rdfc_cli.proofs.comparison.text_of_pairs.Goals as goal

pub bounds-labels-node : goal.bounds-labels-node
bounds-labels-node c = (c.requires _ (In-get_or c.args.pairs.now c.loop-pair.pair-index (0, 0) c.loop-pair-test.true)).0

pub bounds-others-partner : goal.bounds-others-partner
bounds-others-partner c = (c.requires _ (In-get_or c.args.pairs.now c.loop-pair.pair-index (0, 0) c.loop-pair-test.true)).1

pub loop-pair-preserved : goal.loop-pair-preserved
loop-pair-preserved c =
    let pairs = c.args.pairs.now in
    let i = c.loop-pair.pair-index in
    let p : ℕ × ℕ = get_or pairs i (0, 0) in
    let below = c.requires p (In-get_or pairs i (0, 0) c.loop-pair-test.true) in
    one_more_pair c.args.labels.now c.args.others.now pairs i p c.index-labels-node.result c.index-others-partner.result c.loop-pair.out.items _ c.loop-pair-test.true
    (get_or_default pairs i (0, 0) p c.loop-pair-test.true) below.0 below.1
    c.index-labels-node.is c.index-others-partner.is c.loop-pair.invariant c.in_ok-push_pair.ensures
