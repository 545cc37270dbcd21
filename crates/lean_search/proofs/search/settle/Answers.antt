use Rattle.std.proofs.Common.{subst}
use Rattle.lean_search.specs.Workspace.{state_of}
use Rattle.lean_search.specs.Searched.{GoesOn, IsTurned}
use Rattle.lean_search.proofs.search.settle.Goals as goal

pub turns-smaller : goal.turns-smaller
turns-smaller c =
    (subst (IsTurned c.args.graph.now c.args.limit c.args.start (state_of c.turns.workspace) (state_of c.turn.new.workspace) c.turn.new.settled) c.in-Shrunk.is c.in_ok-searched.ensures.turned).fewer

pub turns-preserved : goal.turns-preserved
turns-preserved c =
    let g : GoesOn c.args.graph.now c.args.limit c.args.start (state_of c.turns.workspace) (state_of c.turn.new.workspace) c.turn.new.settled = subst
    (IsTurned c.args.graph.now c.args.limit c.args.start (state_of c.turns.workspace) (state_of c.turn.new.workspace) c.turn.new.settled) c.in-Shrunk.is c.in_ok-searched.ensures.turned in
    record { workspace = c.in_ok-searched.ensures.workspace; underway = g.underway; unsettled = g.unsettled }
