use Rattle.ndegree_hash.proofs.Agreeing.{past-behind}
use Rattle.ndegree_hash.proofs.paths.is_longer_and_past.Goals as goal

pub returns-then-chosen-path : goal.returns-then-chosen-path
returns-then-chosen-path c = past-behind c.args.agree c.args.path.now c.args.chosen.now c.comes_before.result c.requires c.if-chosen-path.true c.comes_before.ensures
